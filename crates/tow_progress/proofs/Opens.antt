-- How an input that begins with a request is read, and what its exchange is once it is decided.
use Rattle.std.proofs.Common.{◌≡◌, ◌≢◌, ◌⊎◌, inl, inr, ℕ, suc, Bool, true, false, true≢false, List, [], ◌++◌, Option, Some, None, is_none, if◌then◌else◌, IsTrue, refl, sym, ap, ◌∙◌, subst, append_assoc}
use Rattle.std.proofs.lemmas.Bool.{and_parts}
use Rattle.std.proofs.lemmas.List.{append-nil}
use Rattle.tow_model.specs.declared.request.Request.{Request}
use Rattle.tow_model.specs.declared.content.Content.{Content}
use Rattle.tow_model.specs.declared.content.Content.TheVariants.{Whole}
use Rattle.tow_model.specs.declared.account.Verdict.{Verdict}
use Rattle.tow_model.specs.Lists.{IsPrefix}
use Rattle.tow_message.specs.Contents.{HasContent, Gives}
use Rattle.tow_message.specs.Stream.{Stream, nothing, refused, last, next, HasRequest, IsWhole, ReadsStream}
use Rattle.tow_message.proofs.ContentLemmas.{content_is_one}
use Rattle.tow_message.proofs.StreamLemmas.{blank_has_none, refused_is_none, one_request, whole_is_some, bytes_of_whole, gives_one}
use Rattle.tow_semantics.specs.Runs.{Ending, Walked, Wait, for_verdict, for_content, Run, is_decided, OutcomesGrow}
use Rattle.tow_wire.specs.Answers.{continue_text, is_invited}
use Rattle.tow_wire.specs.Wire.{Met, meet, invitation_to, answer_to, text_of, goes_on, wire_from}
use Rattle.tow_progress.specs.Runs.{ComesOn, Grows}
use Rattle.tow_progress.specs.Steps.{IsKnown, Settles, AnswersSettle}

-- ---- fronts

pub front_of_front : (a b c : List ℕ) → IsPrefix a b → IsPrefix b c → IsPrefix a c
front_of_front a b c (s, e) (t, f) = (s ++ t, f ∙ ap (λ (l : List ℕ). l ++ t) e ∙ append_assoc a s t)

pub front_to : (a b c : List ℕ) → IsPrefix a b → c ≡ b → IsPrefix a c
front_to a b c (s, e) f = (s, f ∙ e)

pub whole_front : (a b : List ℕ) → a ≡ b → IsPrefix a b
whole_front a b e = ([], sym e ∙ sym (append-nil a))

-- ---- how an input is read that begins with a request

-- as the last request, whose content is not whole, or as a request that others follow
abbrev pub OpensAs : ℕ → Stream → Request → List ℕ → Type 0
OpensAs peer rest q behind =
    ((given : Option Content) × (rest ≡ last q given) × Gives q.framing behind given × ¬ (IsWhole given))
    ⊎ ((bytes : List ℕ) × (tail : Stream) × (after : List ℕ) × (rest ≡ next q bytes tail)
    × HasContent q.framing behind (Whole bytes) after × ReadsStream peer after tail)

pub opens_as : (peer : ℕ) (input behind : List ℕ) (q : Request) (rest : Stream) → HasRequest peer input q behind
    → ReadsStream peer input rest → OpensAs peer rest q behind
opens_as peer input behind q nothing has reads = absurd (blank_has_none input has.head behind reads has.reads)
opens_as peer input behind q (refused status) has reads = absurd (refused_is_none peer input status q behind reads has)
opens_as peer input behind q (last p given) has reads =
    let same = one_request peer input p q reads.0 behind reads.1 has in
    let moved : Gives q.framing behind given =
    subst (λ (r : List ℕ). Gives q.framing r given) same.1 (subst (λ (r : Request). Gives r.framing reads.0 given) same.0 reads.2) in
    inl (given, ap (λ (r : Request). last r given) same.0, moved, reads.3)
opens_as peer input behind q (next p bytes tail) has reads =
    let same = one_request peer input p q reads.0 behind reads.2 has in
    let moved : HasContent q.framing behind (Whole bytes) reads.1 =
    subst (λ (r : List ℕ). HasContent q.framing r (Whole bytes) reads.1) same.1 (subst (λ (r : Request). HasContent r.framing reads.0 (Whole bytes) reads.1) same.0 reads.3) in
    inr (bytes, tail, reads.1, ap (λ (r : Request). next r bytes tail) same.0, moved, reads.4)

-- with its whole content, it is read so
pub next_of : (peer : ℕ) (input behind bytes after : List ℕ) (q : Request) (rest : Stream) → HasRequest peer input q behind
    → HasContent q.framing behind (Whole bytes) after → ReadsStream peer input rest
    → (tail : Stream) × (rest ≡ next q bytes tail) × ReadsStream peer after tail
next_of peer input behind bytes after q rest has content reads = by (opens_as peer input behind q rest has reads)
  where
    by : OpensAs peer rest q behind → (tail : Stream) × (rest ≡ next q bytes tail) × ReadsStream peer after tail
    by (inl (given, is, gives, not_whole)) = absurd (whole_is_some q.framing behind bytes after given gives not_whole content)
    by (inr (other, tail, left, is, has_other, tail_reads)) =
        let contents = content_is_one q.framing behind (Whole other) (Whole bytes) left after has_other content in (
          tail,
          is ∙ ap (λ (l : List ℕ). next q l tail) (bytes_of_whole other bytes contents.0),
          subst (λ (l : List ℕ). ReadsStream peer l tail) contents.1 tail_reads,
        )

-- what follows the text of a request
abbrev pub behind_text : Run → ℕ → ℕ → Request → List ℕ → Stream → List Verdict → List ℕ
behind_text run k j q bytes tail v =
    if goes_on (meet run k j q (Some (Whole bytes)) v)
    then wire_from run k (suc j) tail (run.outcome q (run.moment k j) (Some (Whole bytes)) v).left else []

-- its content is this, and whatever the verdicts, its text comes first
pub record WritesText (run : Run) (k j : ℕ) (rest : Stream) (q : Request) (behind : List ℕ) : Type 0 where
  pub given : Option Content
  pub gives : Gives q.framing behind given
  pub front : (v : List Verdict) → IsPrefix (text_of run k (meet run k j q given v)) (wire_from run k j rest v)

pub writes_text : (run : Run) (k j peer : ℕ) (rest : Stream) (q : Request) (behind : List ℕ) → OpensAs peer rest q behind
    → WritesText run k j rest q behind
writes_text run k j peer rest q behind (inl (given, is, gives, not_whole)) = record {
  given = given;
  gives = gives;
  front = λ v. whole_front _ _ (sym (ap (λ (s : Stream). wire_from run k j s v) is));
}
writes_text run k j peer rest q behind (inr (bytes, tail, after, is, has, reads)) = record {
  given = Some (Whole bytes);
  gives = (after, has);
  front = λ v. (behind_text run k j q bytes tail v, ap (λ (s : Stream). wire_from run k j s v) is);
}

-- ---- an exchange that is decided

pub not_waiting : (w : Option Wait) (x : Wait) → IsTrue (is_none w) → w ≢ Some x
not_waiting None x is e = absurd (cc)
not_waiting (Some y) x is e = absurd (true≢false (sym is))

abbrev pub with_outcome : ℕ → Request → Option Content → Ending → Met
with_outcome j q c o = record { number = j; request = q; content = c; outcome = o }

-- without having asked for the content, it is the same whatever content comes
module _ (run : Run) (k j : ℕ) (q : Request) (c : Option Content) (o : Ending) (unasked : o.asked ≡ false) where
  text_alike : text_of run k (with_outcome j q c o) ≡ text_of run k (with_outcome j q None o)
  text_alike =
      ap (λ (b : Bool). text_of run k (with_outcome j q c (record o { asked = b }))) unasked
      ∙ sym (ap (λ (b : Bool). text_of run k (with_outcome j q None (record o { asked = b }))) unasked)

  on_alike : goes_on (with_outcome j q c o) ≡ goes_on (with_outcome j q None o)
  on_alike =
      ap (λ (b : Bool). goes_on (with_outcome j q c (record o { asked = b }))) unasked
      ∙ sym (ap (λ (b : Bool). goes_on (with_outcome j q None (record o { asked = b }))) unasked)

settles_by : (run : Run) (k j : ℕ) (q : Request) (c : Option Content) (o n : Walked) → IsTrue (is_decided o.outcome) → ComesOn o n
    → Settles run k (with_outcome j q None o.outcome) (with_outcome j q c n.outcome)
settles_by run k j q c o n decided comes =
    let ne = not_waiting o.outcome.waits for_content decided in
    let same : n.outcome ≡ o.outcome = ap (λ (w : Walked). w.outcome) (comes.settled ne) in
    let unasked = comes.unasked ne in record {
      decided = ap is_decided same ∙ decided;
      outcome = same;
      text = ap (λ (e : Ending). text_of run k (with_outcome j q c e)) same ∙ text_alike run k j q c o.outcome unasked;
      on = ap (λ (e : Ending). goes_on (with_outcome j q c e)) same ∙ on_alike run k j q c o.outcome unasked;
    }

pub answers_settle : AnswersSettle
answers_settle run grows k j q c v decided =
    settles_by run k j q c (run.outcome q (run.moment k j) None v) (run.outcome q (run.moment k j) c v) decided
    (grows.contents q (run.moment k j) c v)

-- under more verdicts it is the same, too
pub text_stays : (run : Run) → OutcomesGrow run → (k j : ℕ) (q : Request) (c : Option Content) (v more : List Verdict)
    → IsTrue (is_decided (meet run k j q c v).outcome)
    → text_of run k (meet run k j q c (v ++ more)) ≡ text_of run k (meet run k j q c v)
text_stays run grow k j q c v more decided =
    let m = run.moment k j in
    ap (λ (w : Walked). text_of run k (with_outcome j q c w.outcome))
    ((grow q m c v more).settled (not_waiting (run.outcome q m c v).outcome.waits for_verdict decided))

-- as far as it is known, the content is what the input gives
pub known_is : (run : Run) → Grows run → (k j : ℕ) (q : Request) (behind : List ℕ) (c given : Option Content) (v : List Verdict)
    → IsKnown q.framing behind c → Gives q.framing behind given → IsTrue (is_decided (meet run k j q c v).outcome)
    → Settles run k (meet run k j q c v) (meet run k j q given v)
known_is run grows k j q behind None given v known gives decided = answers_settle run grows k j q given v decided
known_is run grows k j q behind (Some x) given v known gives decided =
    subst (λ (g : Option Content). Settles run k (meet run k j q (Some x) v) (meet run k j q g v))
    (gives_one q.framing behind (Some x) given known gives) (record { decided = decided; outcome = refl; text = refl; on = refl })

-- so its text is what the input asks for first, whatever verdicts still come
pub text_is_front : (run : Run) → Grows run → (k j peer : ℕ) (input behind : List ℕ) (q : Request) (c : Option Content) (v : List Verdict)
    → HasRequest peer input q behind → IsKnown q.framing behind c → IsTrue (is_decided (meet run k j q c v).outcome)
    → (rest : Stream) → ReadsStream peer input rest → (more : List Verdict)
    → IsPrefix (text_of run k (meet run k j q c v)) (wire_from run k j rest (v ++ more))
text_is_front run grows k j peer input behind q c v has known decided rest reads more =
    let writes = writes_text run k j peer rest q behind (opens_as peer input behind q rest has reads) in
    let settles = known_is run grows k j q behind c writes.given v known writes.gives decided in
    subst (λ (t : List ℕ). IsPrefix t (wire_from run k j rest (v ++ more)))
    (text_stays run grows.verdicts k j q writes.given v more settles.decided ∙ settles.text)
    (writes.front (v ++ more))

-- ---- an exchange that is invited

pub invited_alike : (q : Request) (o n : Ending) → n.asked ≡ o.asked → is_invited q n ≡ is_invited q o
invited_alike q o n same = ap (λ (b : Bool). is_invited q (record o { asked = b })) same

-- it has asked for its content
has_asked : (q : Request) (o : Ending) → IsTrue (is_invited q o) → o.asked ≡ true
has_asked q o is = (and_parts q.expects o.asked (and_parts _ _ is).0).1

-- the invitation is what the input asks for first
pub invitation_is_front : (run : Run) → Grows run → (k j peer : ℕ) (input behind : List ℕ) (q : Request) (v : List Verdict)
    → HasRequest peer input q behind → IsTrue (is_invited q (meet run k j q None v).outcome)
    → (rest : Stream) → ReadsStream peer input rest → (more : List Verdict)
    → IsPrefix continue_text (wire_from run k j rest (v ++ more))
invitation_is_front run grows k j peer input behind q v has invited rest reads more =
    let writes = writes_text run k j peer rest q behind (opens_as peer input behind q rest has reads) in
    let m = run.moment k j in
    let e = meet run k j q writes.given (v ++ more) in
    let asked = has_asked q (meet run k j q None v).outcome invited in
    let still : e.outcome.asked ≡ true =
    (grows.verdicts q m writes.given v more).asked ((grows.contents q m writes.given v).asked ∙ asked) in
    let invited_still = invited_alike q (meet run k j q None v).outcome e.outcome (still ∙ sym asked) ∙ invited in
    let invitation : invitation_to e ≡ continue_text = ap (λ (b : Bool). if b then continue_text else []) invited_still in
    front_of_front continue_text (text_of run k e) _ (answer_to run k e, ap (λ (l : List ℕ). l ++ answer_to run k e) invitation)
    (writes.front (v ++ more))
