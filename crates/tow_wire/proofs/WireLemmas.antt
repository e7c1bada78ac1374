-- Fewer verdicts write a front of what more verdicts write.
use Rattle.std.proofs.Common.{◌≡◌, ℕ, suc, Bool, true, false, true≢false, not, ◌&&◌, List, [], ◌++◌, Option, Some, None, is_none, if◌then◌else◌, refl, sym, ap, ◌∙◌, subst, append_assoc}
use Rattle.std.proofs.lemmas.List.{append-nil}
use Rattle.tow_model.specs.declared.request.Request.{Request}
use Rattle.tow_model.specs.declared.content.Content.{Content}
use Rattle.tow_model.specs.declared.content.Content.TheVariants.{Whole}
use Rattle.tow_model.specs.declared.account.Verdict.{Verdict}
use Rattle.tow_model.specs.Lists.{IsPrefix}
use Rattle.tow_semantics.specs.Runs.{Ending, Walked, Wait, for_verdict, for_content, Run, is_decided, GoesOn, OutcomesGrow}
use Rattle.tow_wire.specs.Answers.{continue_text, is_too_long, closes, answer, answer_of}
use Rattle.tow_message.specs.Stream.{Stream, nothing, refused, last, next}
use Rattle.tow_wire.specs.Wire.{Met, invitation_to, answer_to, text_of, goes_on, wire_from, WiresGrow}

-- ---- fronts

pub front_same : (a b : List ℕ) → b ≡ a → IsPrefix a b
front_same a b e = ([], e ∙ sym (append-nil a))

pub front_behind : (a b c : List ℕ) → IsPrefix b c → IsPrefix (a ++ b) (a ++ c)
front_behind a b c (rest, e) = (rest, ap (λ (l : List ℕ). a ++ l) e ∙ sym (append_assoc a b rest))

pub front_longer : (a b c : List ℕ) → IsPrefix a b → IsPrefix a (b ++ c)
front_longer a b c (rest, e) = (rest ++ c, ap (λ (l : List ℕ). l ++ c) e ∙ append_assoc a rest c)

-- ---- an exchange

-- the exchange with this outcome
abbrev with_outcome : ℕ → Request → Option Content → Ending → Met
with_outcome j q c o = record { number = j; request = q; content = c; outcome = o }

abbrev chosen : Bool → List ℕ
chosen b = if b then continue_text else []

-- what is invited stays so
invited : (x a b z : Bool) (t : List ℕ) → (a ≡ true → b ≡ true) → IsPrefix (chosen (x && a && z)) (chosen (x && b && z) ++ t)
invited false a b z t stays = (t, refl)
invited true false b z t stays = (chosen (b && z) ++ t, refl)
invited true true false z t stays = absurd (true≢false (sym (stays refl)))
invited true true true false t stays = (t, refl)
invited true true true true t stays = (t, refl)

is_waiting : (o : Ending) (w : Wait) → o.waits ≡ Some w → is_decided o ≡ false
is_waiting o w e = ap (λ (x : Option Wait). is_none x) e

-- an exchange that waits for a verdict has written its invitation at most
waiting : (run : Run) (k j : ℕ) (q : Request) (c : Option Content) (o new : Ending) (more : List Verdict) (t : List ℕ) (w : Wait)
    → o.waits ≡ Some w → (o.asked ≡ true → new.asked ≡ true)
    → IsPrefix (text_of run k (with_outcome j q c o)) (text_of run k (with_outcome j q c new) ++ t)
waiting run k j q c o new more t w waits stays =
    let e = with_outcome j q c o in
    let e' = with_outcome j q c new in
    let text : text_of run k e ≡ invitation_to e =
    ap (λ (b : Bool). invitation_to e ++ (if b then answer run.file q (answer_of q j (run.moment k j) c o) else [])) (is_waiting o w waits) ∙ append-nil (invitation_to e) in
    let longer : text_of run k e' ++ t ≡ invitation_to e' ++ (answer_to run k e' ++ t) = append_assoc (invitation_to e') (answer_to run k e') t in
    let front = invited q.expects o.asked new.asked (not (is_too_long q.framing)) (answer_to run k e' ++ t) stays in
    (front.0, longer ∙ front.1 ∙ ap (λ (l : List ℕ). l ++ front.0) (sym text))

none_is_some : ◌≡◌ {A = Option Wait} None (Some for_verdict) → ⊥
none_is_some e = absurd (cc)

content_is_verdict : ◌≡◌ {A = Option Wait} (Some for_content) (Some for_verdict) → ⊥
content_is_verdict e = absurd (cc)

text_grows : (run : Run) (k j : ℕ) (q : Request) (c : Option Content) (o new : Walked) (more : List Verdict) (w : Option Wait)
    → o.outcome.waits ≡ w → GoesOn o new more
    → IsPrefix (text_of run k (with_outcome j q c o.outcome)) (text_of run k (with_outcome j q c new.outcome))
text_grows run k j q c o new more None waits g =
    front_same _ _ (ap (λ (n : Walked). text_of run k (with_outcome j q c n.outcome)) (g.settled (λ e. absurd (none_is_some (sym waits ∙ e)))))
text_grows run k j q c o new more (Some for_content) waits g =
    front_same _ _ (ap (λ (n : Walked). text_of run k (with_outcome j q c n.outcome)) (g.settled (λ e. absurd (content_is_verdict (sym waits ∙ e)))))
text_grows run k j q c o new more (Some for_verdict) waits g =
    let longer = waiting run k j q c o.outcome new.outcome more [] for_verdict waits g.asked in
    (longer.0, sym (append-nil (text_of run k (with_outcome j q c new.outcome))) ∙ longer.1)

-- what follows an exchange, where the next request is read
abbrev follow : (List Verdict → List ℕ) → Met → List Verdict → List ℕ
follow rest e left = if goes_on e then rest left else []

-- the same text and the same choice, and then a front
same_then : (run : Run) (k : ℕ) (e : Met) (left more : List Verdict) (rest : List Verdict → List ℕ) (b : Bool)
    → goes_on e ≡ b → ((v more : List Verdict) → IsPrefix (rest v) (rest (v ++ more)))
    → IsPrefix (text_of run k e ++ follow rest e left) (text_of run k e ++ follow rest e (left ++ more))
same_then run k e left more rest true is grows =
    let here : follow rest e left ≡ rest left = ap (λ (b : Bool). if b then rest left else []) is in
    let there : follow rest e (left ++ more) ≡ rest (left ++ more) = ap (λ (b : Bool). if b then rest (left ++ more) else []) is in
    subst (λ (l : List ℕ). IsPrefix (text_of run k e ++ l) (text_of run k e ++ follow rest e (left ++ more))) (sym here)
    (subst (λ (l : List ℕ). IsPrefix (text_of run k e ++ rest left) (text_of run k e ++ l)) (sym there)
    (front_behind (text_of run k e) _ _ (grows left more)))
same_then run k e left more rest false is grows =
    let here : follow rest e left ≡ [] = ap (λ (b : Bool). if b then rest left else []) is in
    let there : follow rest e (left ++ more) ≡ [] = ap (λ (b : Bool). if b then rest (left ++ more) else []) is in
    front_same _ _ (ap (λ (l : List ℕ). text_of run k e ++ l) (there ∙ sym here))

-- all that is written from an exchange on
abbrev from_here : Run → ℕ → ℕ → Request → Option Content → (List Verdict → List ℕ) → Walked → List ℕ
from_here run k j q c rest n = text_of run k (with_outcome j q c n.outcome) ++ follow rest (with_outcome j q c n.outcome) n.left

next_grows : (run : Run) (k j : ℕ) (q : Request) (c : Option Content) (o new : Walked) (more : List Verdict) (rest : List Verdict → List ℕ) (w : Option Wait)
    → o.outcome.waits ≡ w → GoesOn o new more → ((v more : List Verdict) → IsPrefix (rest v) (rest (v ++ more)))
    → IsPrefix (from_here run k j q c rest o) (from_here run k j q c rest new)
next_grows run k j q c o new more rest None waits g grows =
    subst (λ (n : Walked). IsPrefix (from_here run k j q c rest o) (from_here run k j q c rest n))
    (sym (g.settled (λ e. absurd (none_is_some (sym waits ∙ e)))))
    (same_then run k (with_outcome j q c o.outcome) o.left more rest (goes_on (with_outcome j q c o.outcome)) refl grows)
next_grows run k j q c o new more rest (Some for_content) waits g grows =
    subst (λ (n : Walked). IsPrefix (from_here run k j q c rest o) (from_here run k j q c rest n))
    (sym (g.settled (λ e. absurd (content_is_verdict (sym waits ∙ e)))))
    (same_then run k (with_outcome j q c o.outcome) o.left more rest (goes_on (with_outcome j q c o.outcome)) refl grows)
next_grows run k j q c o new more rest (Some for_verdict) waits g grows =
    let here : follow rest (with_outcome j q c o.outcome) o.left ≡ [] =
    ap (λ (b : Bool). if b && not (closes q j c o.outcome) then rest o.left else []) (is_waiting o.outcome for_verdict waits) in
    let front = waiting run k j q c o.outcome new.outcome more (follow rest (with_outcome j q c new.outcome) new.left) for_verdict waits g.asked in
    subst (λ (l : List ℕ). IsPrefix l (from_here run k j q c rest new))
    (sym (ap (λ (l : List ℕ). text_of run k (with_outcome j q c o.outcome) ++ l) here ∙ append-nil (text_of run k (with_outcome j q c o.outcome)))) front

-- ---- the wire

from_grows : (run : Run) → OutcomesGrow run → (k j : ℕ) (s : Stream) (v more : List Verdict) → IsPrefix (wire_from run k j s v) (wire_from run k j s (v ++ more))
from_grows run grow k j nothing v more = ([], refl)
from_grows run grow k j (refused status) v more = front_same _ _ refl
from_grows run grow k j (last q c) v more =
    text_grows run k j q c (run.outcome q (run.moment k j) c v) (run.outcome q (run.moment k j) c (v ++ more)) more _ refl (grow q (run.moment k j) c v more)
from_grows run grow k j (next q bytes rest) v more =
    let c : Option Content = Some (Whole bytes) in
    next_grows run k j q c (run.outcome q (run.moment k j) c v) (run.outcome q (run.moment k j) c (v ++ more)) more (wire_from run k (suc j) rest) _ refl (grow q (run.moment k j) c v more)
    (λ u w. from_grows run grow k (suc j) rest u w)

pub wires_grow : WiresGrow
wires_grow run grow k s v more = from_grows run grow k 1 s v more
