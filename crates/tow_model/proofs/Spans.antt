-- The bytes of a text between two places.
use Rattle.std.specs.Prelude.{◌≡◌, ℕ, suc, ◌+◌, ◌-◌, ◌<◌, ◌≤◌, List, [], ◌∷◌, ◌++◌, length, get_or, take, drop, slice_range}
use Rattle.std.proofs.Common.{sym, ◌∙◌, ap, ap₂, arith, add-one, length-drop}
use Rattle.std.proofs.Math.ListN.{drop_of_length-le}
use Rattle.std.proofs.Math.Seq.{drop-cons, take-length}
use Rattle.std.proofs.lemmas.List.{take_more, get_or-drop, length-take-le}

-- the byte at a place, and the bytes behind it
pub byte_then : (text : List ℕ) (at : ℕ) → at < length text → drop at text ≡ get_or text at 0 ∷ drop (at + 1) text
byte_then text at lt = rw add-one (drop-cons text at 0 lt)

pub none_then : (text : List ℕ) (at : ℕ) → length text ≤ at → drop at text ≡ []
none_then text at le = drop_of_length-le text le

pub span_none : (text : List ℕ) (at to : ℕ) → to ≤ at → slice_range text at to ≡ []
span_none text at to le = let e : to - at ≡ 0 = omega arith in ap (λ n. take n (drop at text)) e

pub span_step : (text : List ℕ) (at to : ℕ) → at < to → at < length text → slice_range text at to ≡ get_or text at 0 ∷ slice_range text (at + 1) to
span_step text at to lt short =
    let e : to - at ≡ suc (to - (at + 1)) = omega arith in
    ap₂ take e (byte_then text at short)

pub span_more : (text : List ℕ) (from at : ℕ) → from ≤ at → at < length text → slice_range text from (at + 1) ≡ slice_range text from at ++ get_or text at 0 ∷ []
span_more text from at le lt =
    let e : at + 1 - from ≡ (at - from) + 1 = omega arith in
    let short : at - from < length (drop from text) = omega (arith, length-drop from text) in
    let same : from + (at - from) ≡ at = omega arith in
    ap (λ n. take n (drop from text)) e ∙ take_more (drop from text) (at - from) 0 short
    ∙ ap (λ b. slice_range text from at ++ b ∷ []) (get_or-drop from text (at - from) 0 ∙ ap (λ n. get_or text n 0) same)

pub span_end : (text : List ℕ) (at : ℕ) → slice_range text at (length text) ≡ drop at text
span_end text at = ap (λ n. take n (drop at text)) (sym (length-drop at text)) ∙ take-length (drop at text)

pub span_length : (text : List ℕ) (from to : ℕ) → from ≤ to → to ≤ length text → to ≡ from + length (slice_range text from to)
span_length text from to le short =
    let some : to - from ≤ length (drop from text) = omega (arith, length-drop from text) in
    omega (arith, length-take-le (to - from) (drop from text) some)
