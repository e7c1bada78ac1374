-- What follows from what is known of the open request.
use Rattle.std.proofs.Common.{◌≡◌, ◌≤◌, ℕ, List, [], ◌++◌, Option, Some, None, refl, sym, ap, ap₂, ◌∙◌, subst, append-nil, append_assoc}
use Rattle.tow_model.specs.declared.request.Framing.{Framing}
use Rattle.tow_model.specs.declared.content.Content.{Content}
use Rattle.tow_model.specs.declared.content.Content.TheVariants.{Whole, Bad, TooLong}
use Rattle.tow_model.specs.declared.limits.TheConstants.{MAX_REQUESTS}
use Rattle.tow_message.specs.Contents.{HasContent}
use Rattle.tow_message.specs.Stream.{HasRequest}
use Rattle.tow_semantics.specs.Runs.{Walked}
use Rattle.tow_semantics.specs.Outcome.{outcome}
use Rattle.tow_semantics.specs.Sites.{given}
use Rattle.tow_exchange.specs.Exchanges.{ExchangeData}
use Rattle.tow_progress.specs.Progress.{Progress, Origin, unfinished}
use Rattle.tow_progress.specs.Runs.{Grows}
use Rattle.tow_progress.specs.Steps.{IsKnown, IsOpen, Stays, StepsKeep, taken}
use Rattle.tow_progress.specs.Accounts.{Tally}
use Rattle.tow_progress.proofs.Growing.{texts_grow}
use Rattle.tow_progress.proofs.StepLemmas.{wire_is_kept}
use Rattle.tow_progress.proofs.AccountLemmas.{account_is_kept}
use Rattle.tow_course.specs.Course.{Course, outcome_with, verdicts_in}
use Rattle.tow_states.specs.Known.{Setting, run_in, Stands, moment_of, Shows, HasExchange, CourseIsMet}

-- ---- the connection

pub grows : (s : Setting) → Grows (run_in s)
grows s = texts_grow s.tree s.files s.moments

pub steps_keep : (s : Setting) (o : Origin) (c : Progress) (t : Tally) → Stands s o c t → StepsKeep (run_in s) c
steps_keep s o c t is = wire_is_kept (run_in s) (grows s) c is.wire

-- a step by which bytes move
pub stands_on : (s : Setting) (o : Origin) (c d : Progress) (t : Tally) → Stands s o c t → Stays (run_in s) c d
    → d.request ≡ c.request → d.spent ≡ c.spent → d.own ≡ c.own → Stands s o d t
stands_on s o c d t is stays request spent own = record {
  origin = stays.origin ∙ is.origin;
  wire = stays.on_wire;
  account = (account_is_kept s.tree (run_in s) (grows s) c t is.account).moves d stays.origin request spent own;
  few = subst (λ (j : ℕ). j ≤ MAX_REQUESTS) (sym request) is.few;
}

-- ---- the open request

-- what was taken says as much of the input
pub known_of : (framing : Framing) (took rest : List ℕ) (content : Option Content) → Shows framing took content
    → IsKnown framing (took ++ rest) content
known_of framing took rest None shows = tt
known_of framing took rest (Some (Whole bytes)) shows = (rest, record { text = took; is_content = shows; joined = refl })
known_of framing took rest (Some TooLong) shows = (rest, record { text = took; is_content = shows; joined = refl })
known_of framing took rest (Some Bad) shows = λ more after given has.
    shows (rest ++ more) after given (subst (λ (l : List ℕ). HasContent framing l given after) (append_assoc took rest more) has)

module _ (s : Setting) (c : Progress) (t : Tally) (e : ExchangeData) (n : Course) (took : List ℕ)
    (has : HasExchange s c t e n took) where
  -- its request is the open one, with any content that was shown
  pub opens_with : (content : Option Content) → Shows e.request.framing took content → IsOpen c e.request content
  opens_with content shows = record {
    behind = took ++ (c.piped_in ++ c.left);
    request = has.request;
    known = known_of e.request.framing took (c.piped_in ++ c.left) content shows;
  }

  pub walked_is : (content : Option Content)
      → (run_in s).outcome e.request (moment_of s c) content c.own ≡ outcome_with s.tree s.files e n content []
  walked_is content =
      ap₂ (λ m v. outcome s.tree (given s.files e.request m content) v) (sym has.moment)
      (has.verdicts ∙ sym (append-nil (verdicts_in n)))

  -- the same where content moved from the pipe, or into it
  pub request_taken : (bytes piped : List ℕ) → c.piped_in ≡ bytes ++ piped
      → HasRequest c.peer (unfinished (taken bytes piped c)) e.request ((took ++ bytes) ++ (piped ++ c.left))
  request_taken bytes piped is =
      let rest = piped ++ c.left in
      let joined : c.piped_in ++ c.left ≡ bytes ++ rest =
      ap (λ (l : List ℕ). l ++ c.left) is ∙ append_assoc bytes piped c.left in
      subst (λ (l : List ℕ). HasRequest c.peer l e.request ((took ++ bytes) ++ rest)) (sym (append_assoc c.current bytes rest))
      (subst (λ (l : List ℕ). HasRequest c.peer (c.current ++ (bytes ++ rest)) e.request l) (sym (append_assoc took bytes rest))
      (subst (λ (l : List ℕ). HasRequest c.peer (c.current ++ l) e.request (took ++ l)) joined has.request))

pub course_is_met : CourseIsMet
course_is_met s c t e n took has content = ap (λ (w : Walked). w.outcome) (walked_is s c t e n took has content)
