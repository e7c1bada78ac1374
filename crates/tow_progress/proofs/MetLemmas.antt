-- The wire is the texts of its exchanges and an end.
use Rattle.std.proofs.Common.{◌≡◌, ◌⊎◌, inl, inr, ◌+◌, ℕ, suc, Bool, true, false, List, [], ◌∷◌, ◌++◌, length, Some, if◌then◌else◌, refl, sym, ap, ◌∙◌, subst, append_assoc, arith}
use Rattle.std.proofs.lemmas.List.{append-nil}
use Rattle.tow_model.specs.declared.content.Content.TheVariants.{Whole}
use Rattle.tow_model.specs.declared.account.Verdict.{Verdict}
use Rattle.tow_message.specs.Stream.{Stream, nothing, refused, last, next}
use Rattle.tow_semantics.specs.Runs.{Run}
use Rattle.tow_wire.specs.Answers.{refusal_text}
use Rattle.tow_wire.specs.Wire.{Met, meet, left_by, text_of, texts_of, goes_on, wire_from, met_from}
use Rattle.tow_progress.specs.Exchanges.{WireIsTexts}

-- nothing, or the answer to a head that is refused at request n
abbrev IsEnd : Run → ℕ → ℕ → List ℕ → Type 0
IsEnd run k n bytes = (bytes ≡ []) ⊎ ((status : ℕ) × (bytes ≡ refusal_text status (run.moment k n)))

-- the bytes are the texts of these exchanges, the first of which is request j, and an end
abbrev TextsThen : Run → ℕ → ℕ → List Met → List ℕ → Type 0
TextsThen run k j exchanges bytes =
    (behind : List ℕ) × (bytes ≡ texts_of run k exchanges ++ behind) × IsEnd run k (j + length exchanges) behind

-- behind an exchange, if the next request is read
texts_behind : (run : Run) (k j : ℕ) (e : Met) (exchanges : List Met) (bytes : List ℕ) (b : Bool) → TextsThen run k (suc j) exchanges bytes
    → TextsThen run k j (e ∷ (if b then exchanges else [])) (text_of run k e ++ (if b then bytes else []))
texts_behind run k j e exchanges bytes true (behind, is, end) = (
  behind,
  ap (λ (l : List ℕ). text_of run k e ++ l) is ∙ sym (append_assoc (text_of run k e) (texts_of run k exchanges) behind),
  (let same : suc j + length exchanges ≡ j + suc (length exchanges) = omega arith in subst (λ (n : ℕ). IsEnd run k n behind) same end),
)
texts_behind run k j e exchanges bytes false follows = ([], sym (append-nil (text_of run k e ++ [])), inl refl)

from_texts : (run : Run) (k j : ℕ) (s : Stream) (v : List Verdict) → TextsThen run k j (met_from run k j s v) (wire_from run k j s v)
from_texts run k j nothing v = ([], refl, inl refl)
from_texts run k j (refused status) v =
    let same : j ≡ j + 0 = omega arith in
    (refusal_text status (run.moment k j), refl, inr (status, ap (λ (n : ℕ). refusal_text status (run.moment k n)) same))
from_texts run k j (last q c) v =
    let text = text_of run k (meet run k j q c v) in ([], sym (append-nil (text ++ []) ∙ append-nil text), inl refl)
from_texts run k j (next q bytes rest) v =
    let e = meet run k j q (Some (Whole bytes)) v in
    let left = left_by run k j q (Some (Whole bytes)) v in
    texts_behind run k j e (met_from run k (suc j) rest left) (wire_from run k (suc j) rest left) (goes_on e)
    (from_texts run k (suc j) rest left)

pub wire_is_texts : WireIsTexts
wire_is_texts run k s v =
    let texts = from_texts run k 1 s v in
    let same : 1 + length (met_from run k 1 s v) ≡ suc (length (met_from run k 1 s v)) = omega arith in
    (texts.0, texts.1, subst (λ (n : ℕ). IsEnd run k n texts.0) same texts.2)
