-- Where the tokens of a text stand in it.
use Rattle.std.specs.Prelude.{◌≡◌, ℕ, zero, suc, ◌+◌, ◌<◌, ◌≤◌, List, [], ◌∷◌, ◌++◌, length, get_or}
use Rattle.std.proofs.Common.{◌∙◌, ap, arith, length-append}
use Rattle.tow_language.specs.declared.token.Token.{Token}
use Rattle.tow_language.specs.Tokens.{CutsUpTo, Cuts}

abbrev Stands : ℕ → Token → Type 0
Stands n t = (t.from ≤ t.to) × (t.to ≤ n)

sizes : (bytes gap spelled after : List ℕ) → bytes ≡ gap ++ (spelled ++ after) → length bytes ≡ length gap + (length spelled + length after)
sizes bytes gap spelled after whole = ap length whole ∙ length-append gap (spelled ++ after) ∙ ap (λ m. length gap + m) (length-append spelled after)

stands : (n at : ℕ) (bytes : List ℕ) (ts : List Token) (left : List ℕ) → CutsUpTo at bytes ts left → at + length bytes ≤ n → (k : ℕ) (d : Token) → k < length ts → Stands n (get_or ts k d)
stands n at bytes [] left cut fits k d lt = absurd (omega arith)
stands n at bytes (t ∷ ts) left (gap, spelled, after, whole, white, from, to, token, more) fits zero d lt =
    let s = sizes bytes gap spelled after whole in (omega (arith, to), omega (arith, s, from, to))
stands n at bytes (t ∷ ts) left (gap, spelled, after, whole, white, from, to, token, more) fits (suc j) d lt =
    let s = sizes bytes gap spelled after whole in stands n t.to after ts left more (omega (arith, s, from, to)) j d (omega (arith, lt))

pub token_stands : (text : List ℕ) (tokens : List Token) → Cuts text tokens → (k : ℕ) (d : Token) → k < length tokens → ((get_or tokens k d).from ≤ (get_or tokens k d).to) × ((get_or tokens k d).to ≤ length text)
token_stands text tokens cut k d lt = stands (length text) 0 text tokens [] cut.whole (omega arith) k d lt
