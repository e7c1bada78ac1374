-- How a course opens and goes on, and what its outcome is.
use Rattle.std.proofs.Common.{◌≡◌, ℕ, zero, ◌+◌, Bool, true, false, List, [], ◌∷◌, ◌++◌, map, count_by, ◌==◌, ◌&&◌, cond, Option, Some, None, refl, sym, ap, ap₂, subst, ◌∙◌, append-nil, append_assoc, add-zero}
use Rattle.std.proofs.lemmas.List.{map-append}
use Rattle.std.proofs.lemmas.List.Sums.{sum_by-append, sum_by_push}
use Rattle.tow_model.specs.declared.request.Request.{Request}
use Rattle.tow_model.specs.declared.record.Listener.{Listener}
use Rattle.tow_model.specs.declared.record.Listener.TheVariants.{Leave, Log}
use Rattle.tow_model.specs.declared.account.Verdict.{Verdict}
use Rattle.tow_model.specs.declared.account.Verdict.TheVariants.{Admitted, Refused}
use Rattle.tow_model.specs.declared.content.Content.{Content}
use Rattle.tow_model.specs.declared.content.Content.TheVariants.{Whole, Bad, TooLong}
use Rattle.tow_model.specs.declared.statement.Statement.{Statement}
use Rattle.tow_model.specs.Texts.{Text}
use Rattle.tow_semantics.specs.Files.{Files}
use Rattle.tow_semantics.specs.Pages.{Found, Serve, Redirect, Listing, Forbidden, NotModified, NotFound, BadMethod, found_page}
use Rattle.tow_semantics.specs.Steps.{Step, Go, Stop}
use Rattle.tow_semantics.specs.Plans.{Plan, Over, AwaitVerdict, AwaitContent, AwaitPage}
use Rattle.tow_semantics.specs.Walk.{Given, Notes, entered}
use Rattle.tow_semantics.specs.Runs.{Entry, Walked, for_content, for_verdict}
use Rattle.tow_semantics.specs.Sites.{given}
use Rattle.tow_semantics.specs.Outcome.{decided, opening, outcome, played, undecided}
use Rattle.tow_exchange.specs.Exchanges.{ExchangeData, content_given, opened, page_given, verdict_given}
use Rattle.tow_exchange.specs.declared.phase.Phase.TheVariants.{AwaitsVerdict, AwaitsContent, AwaitsPage, Stopped}
use Rattle.tow_program.specs.Programs.{program_of}
use Rattle.tow_advance.specs.Moves.{AddsLogs, IsUnchosen}
use Rattle.tow_advance.specs.Under.{plan_in}
use Rattle.tow_advance.proofs.Plans.{opened_outcome, stopped_plan, verdict_plan, content_plan, page_plan}
use Rattle.tow_progress.specs.Ended.{admits, is_admission, leaves}
use Rattle.tow_course.specs.Course.{Course, fresh, verdicts_in, notes_of, Agrees, given_to, outcome_with, IsOnCourse, Advances, heard_in, read_in, looked_in, CourseOpens, CourseAdvances, CourseHears, CourseReads, CourseLooks, CourseStops, CourseWaitsForContent, CourseWaitsForVerdict}

-- COUNTS

abbrev one_if : Bool → ℕ
one_if b = cond b 1 0

count-append : {X : Type 0} (p : X → Bool) (xs ys : List X) → count_by p (xs ++ ys) ≡ count_by p xs + count_by p ys
count-append p xs ys = sum_by-append (λ x. one_if (p x)) xs ys

count-push : {X : Type 0} (p : X → Bool) (xs : List X) (x : X) → count_by p (xs ++ x ∷ []) ≡ count_by p xs + one_if (p x)
count-push p xs x = sum_by_push (λ y. one_if (p y)) xs x

no_log_leaves : (limit : ℕ) (logs : List ℕ) → count_by (leaves limit) (map Log logs) ≡ 0
no_log_leaves limit [] = refl
no_log_leaves limit (n ∷ logs) = no_log_leaves limit logs

pub logs_leave_none : (limit : ℕ) (old new : List Listener) → AddsLogs old new → count_by (leaves limit) new ≡ count_by (leaves limit) old
logs_leave_none limit old new adds =
    ap (count_by (leaves limit)) adds.1
    ∙ count-append (leaves limit) old (map Log adds.0)
    ∙ ap (λ n. count_by (leaves limit) old + n) (no_log_leaves limit adds.0)
    ∙ add-zero (count_by (leaves limit) old)

-- an admission is counted as its leaving is
and_true : (b : Bool) → (b && true) ≡ b
and_true true = refl
and_true false = refl

and_false : (b : Bool) → (b && false) ≡ false
and_false true = refl
and_false false = refl

abbrev entry_of : ℕ → Verdict → Entry
entry_of limit verdict = record { limit = limit; verdict = verdict }

admitted_inside : (l limit : ℕ) (entries : List Entry) (listeners : List Listener) →
    count_by (admits l) entries ≡ count_by (leaves l) listeners →
    count_by (admits l) (entries ++ entry_of limit Admitted ∷ []) ≡ count_by (leaves l) (listeners ++ Leave limit ∷ [])
admitted_inside l limit entries listeners inside =
    count-push (admits l) entries (entry_of limit Admitted)
    ∙ ap₂ (λ n k. n + k) inside (ap one_if (and_true (limit == l)))
    ∙ sym (count-push (leaves l) listeners (Leave limit))

refused_inside : (l limit : ℕ) (entries : List Entry) →
    count_by (admits l) (entries ++ entry_of limit Refused ∷ []) ≡ count_by (admits l) entries
refused_inside l limit entries =
    count-push (admits l) entries (entry_of limit Refused)
    ∙ ap (λ b. count_by (admits l) entries + one_if b) (and_false (limit == l))
    ∙ add-zero (count_by (admits l) entries)

-- HOW IT OPENS AND GOES ON

pub course_opens : CourseOpens
course_opens tree files k j q m = record {
  plays = λ content agrees more. sym (opened_outcome tree (given files q m content) more k j);
  unchosen = λ live. refl;
  inside = λ limit. refl;
}

pub course_advances : CourseAdvances
course_advances tree files old new n a on = record {
  plays = λ content agrees more.
      let same : given_to files new content ≡ given_to files old content = ap₂ (λ q m. given files q m content) a.request a.moment in
      ap (λ g. outcome tree g (verdicts_in n ++ more)) same
      ∙ on.plays content agrees more
      ∙ sym (ap₂ (λ g p. played g p (notes_of n more)) same a.plan);
  unchosen = a.unchosen on.unchosen;
  inside = λ limit. on.inside limit ∙ sym (logs_leave_none limit old.stand.state.listeners new.stand.state.listeners a.adds);
}

-- a verdict more behind those that it got is the first one of those to come
one_more : (n : Course) (limit : ℕ) (verdict : Verdict) (more : List Verdict) →
    verdicts_in (heard_in limit verdict n) ++ more ≡ verdicts_in n ++ verdict ∷ more
one_more n limit verdict more =
    ap (λ (vs : List Verdict). vs ++ more) (map-append (λ (entry : Entry). entry.verdict) n.entries (entry_of limit verdict ∷ []))
    ∙ append_assoc (verdicts_in n) (verdict ∷ []) more

module _ (tree : List Statement) (files : Files) (e : ExchangeData) (n : Course) (limit : ℕ) (is : e.phase ≡ AwaitsVerdict limit)
    (on : IsOnCourse tree files e n) where
  -- the request and the moment stay
  hears_given : (verdict : Verdict) (content : Option Content) → given_to files (verdict_given limit verdict e) content ≡ given_to files e content
  hears_given Admitted content = refl
  hears_given Refused content = refl

  hears_plays : (verdict : Verdict) (content : Option Content) → Agrees n.content content → (more : List Verdict) →
      outcome_with tree files (verdict_given limit verdict e) (heard_in limit verdict n) content more
      ≡ played (given_to files (verdict_given limit verdict e) content) (plan_in (program_of tree) (verdict_given limit verdict e))
      (notes_of (heard_in limit verdict n) more)
  hears_plays verdict content agrees more =
      let g = given_to files e content in
      let same = hears_given verdict content in
      ap₂ (λ k vs. outcome tree k vs) same (one_more n limit verdict more)
      ∙ on.plays content agrees (verdict ∷ more)
      ∙ ap (λ p. played g p (notes_of n (verdict ∷ more))) (verdict_plan (program_of tree) e limit is)
      ∙ sym (ap (λ k. played k (plan_in (program_of tree) (verdict_given limit verdict e)) (notes_of (heard_in limit verdict n) more)) same)

  hears : (verdict : Verdict) → IsOnCourse tree files (verdict_given limit verdict e) (heard_in limit verdict n)
  hears Admitted = record {
    plays = hears_plays Admitted;
    unchosen = λ live. on.unchosen (λ stopped. cc);
    inside = λ l. admitted_inside l limit n.entries e.stand.state.listeners (on.inside l);
  }
  hears Refused = record {
    plays = hears_plays Refused;
    unchosen = λ live. absurd (live refl);
    inside = λ l. refused_inside l limit n.entries ∙ on.inside l;
  }

pub course_hears : CourseHears
course_hears tree files e n limit verdict is on = hears tree files e n limit is on verdict

-- the content that is known is the one that comes
agreed : (n : Course) → n.content ≡ None → (content : Option Content) → Agrees n.content content
agreed n none content = subst (λ o. Agrees o content) (sym none) tt

module _ (tree : List Statement) (files : Files) (e : ExchangeData) (n : Course) (is : e.phase ≡ AwaitsContent)
    (none : n.content ≡ None) (on : IsOnCourse tree files e n) where
  reads_given : (c : Content) (content : Option Content) → given_to files (content_given c e) content ≡ given_to files e content
  reads_given (Whole bytes) content = refl
  reads_given Bad content = refl
  reads_given TooLong content = refl

  -- where its content is that one
  reads_plays : (c : Content) (more : List Verdict) →
      outcome_with tree files (content_given c e) (read_in c n) (Some c) more
      ≡ played (given_to files (content_given c e) (Some c)) (plan_in (program_of tree) (content_given c e)) (notes_of (read_in c n) more)
  reads_plays c more =
      let g = given_to files e (Some c) in
      let same = reads_given c (Some c) in
      ap (λ k. outcome tree k (verdicts_in n ++ more)) same
      ∙ on.plays (Some c) (agreed n none (Some c)) more
      ∙ ap (λ p. played g p (notes_of n more)) (content_plan (program_of tree) e is)
      ∙ sym (ap (λ k. played k (plan_in (program_of tree) (content_given c e)) (notes_of (read_in c n) more)) same)

  reads_agreed : (c : Content) (content : Option Content) → Agrees (Some c) content → (more : List Verdict) →
      outcome_with tree files (content_given c e) (read_in c n) content more
      ≡ played (given_to files (content_given c e) content) (plan_in (program_of tree) (content_given c e)) (notes_of (read_in c n) more)
  reads_agreed c content agrees more =
      subst (λ o. outcome_with tree files (content_given c e) (read_in c n) o more
      ≡ played (given_to files (content_given c e) o) (plan_in (program_of tree) (content_given c e)) (notes_of (read_in c n) more))
      (sym agrees) (reads_plays c more)

  reads : (c : Content) → IsOnCourse tree files (content_given c e) (read_in c n)
  reads (Whole bytes) =
      record { plays = reads_agreed (Whole bytes); unchosen = λ live. absurd (live refl); inside = on.inside }
  reads Bad = record { plays = reads_agreed Bad; unchosen = λ live. absurd (live refl); inside = on.inside }
  reads TooLong = record { plays = reads_agreed TooLong; unchosen = λ live. absurd (live refl); inside = on.inside }

pub course_reads : CourseReads
course_reads tree files e n c is none on = reads tree files e n is none on c

module _ (tree : List Statement) (files : Files) (e : ExchangeData) (n : Course) (location : Text) (listing : Bool)
    (is : e.phase ≡ AwaitsPage location listing) (on : IsOnCourse tree files e n) where
  looks_given : (p : Found) (content : Option Content) → given_to files (page_given p e) content ≡ given_to files e content
  looks_given (Serve path len second) content = refl
  looks_given (Redirect to) content = refl
  looks_given (Listing bytes) content = refl
  looks_given Forbidden content = refl
  looks_given (NotModified second) content = refl
  looks_given NotFound content = refl
  looks_given BadMethod content = refl

  looks_plays : (p : Found) → p ≡ found_page files location listing e.request e.stand.state →
      (content : Option Content) → Agrees n.content content → (more : List Verdict) →
      outcome_with tree files (page_given p e) (looked_in n) content more
      ≡ played (given_to files (page_given p e) content) (plan_in (program_of tree) (page_given p e)) (notes_of (looked_in n) more)
  looks_plays p found content agrees more =
      let g = given_to files e content in
      let same = looks_given p content in
      ap (λ k. outcome tree k (verdicts_in n ++ more)) same
      ∙ on.plays content agrees more
      ∙ ap (λ q. played g q (notes_of n more)) (page_plan (program_of tree) e location listing is)
      ∙ ap (λ f. played g (plan_in (program_of tree) (page_given f e)) (notes_of (looked_in n) more)) (sym found)
      ∙ sym (ap (λ k. played k (plan_in (program_of tree) (page_given p e)) (notes_of (looked_in n) more)) same)

  looks : (p : Found) → p ≡ found_page files location listing e.request e.stand.state → IsOnCourse tree files (page_given p e) (looked_in n)
  looks (Serve path len second) found =
      record { plays = looks_plays (Serve path len second) found; unchosen = λ live. absurd (live refl); inside = on.inside }
  looks (Redirect to) found =
      record { plays = looks_plays (Redirect to) found; unchosen = λ live. absurd (live refl); inside = on.inside }
  looks (Listing bytes) found =
      record { plays = looks_plays (Listing bytes) found; unchosen = λ live. absurd (live refl); inside = on.inside }
  looks Forbidden found = record { plays = looks_plays Forbidden found; unchosen = λ live. absurd (live refl); inside = on.inside }
  looks (NotModified second) found =
      record { plays = looks_plays (NotModified second) found; unchosen = λ live. absurd (live refl); inside = on.inside }
  looks NotFound found =
      record { plays = looks_plays NotFound found; unchosen = λ live. on.unchosen (λ stopped. cc); inside = on.inside }
  looks BadMethod found = record { plays = looks_plays BadMethod found; unchosen = λ live. absurd (live refl); inside = on.inside }

pub course_looks : CourseLooks
course_looks tree files e n location listing is on =
    looks tree files e n location listing is on (found_page files location listing e.request e.stand.state) refl

-- WHAT ITS OUTCOME IS

pub course_stops : CourseStops
course_stops tree files e n is on content agrees more =
    on.plays content agrees more ∙ ap (λ p. played (given_to files e content) p (notes_of n more)) (stopped_plan (program_of tree) e is)

pub course_waits_for_content : CourseWaitsForContent
course_waits_for_content tree files e n is none on more =
    on.plays None (agreed n none None) more
    ∙ ap (λ p. played (given_to files e None) p (notes_of n more)) (content_plan (program_of tree) e is)

pub course_waits_for_verdict : CourseWaitsForVerdict
course_waits_for_verdict tree files e n limit is on content agrees =
    on.plays content agrees []
    ∙ ap (λ p. played (given_to files e content) p (notes_of n [])) (verdict_plan (program_of tree) e limit is)
