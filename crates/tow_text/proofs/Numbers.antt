-- The number of some digits, one digit after the other, and cut off at a bound.
use Rattle.std.proofs.Common.{◌≡◌, ℕ, ◌+◌, ◌*◌, ◌-◌, ◌<◌, min, Bool, true, false, IsTrue, List, length, get_or, take, fold, refl, sym, ap, ◌∙◌, arith}
use Rattle.std.proofs.lemmas.Int.Digits.{digits_value_more}
use Rattle.std.proofs.lemmas.List.Folds.{list_all_at}
use Rattle.std.proofs.lemmas.List.Sums.{fold_more}
use Rattle.std.specs.Char.{is_ascii_digit, digit_value}
use Rattle.std.specs.List.{list_all}
use Rattle.std.specs.Str.Parse.{digits_value}
use Rattle.tow_model.specs.Texts.{Text}

abbrev pub with_digit : ℕ → ℕ → ℕ
with_digit n d = 10 * n + (d - 48)

-- a byte of a text of digits is a digit
pub digit_at : (text : Text) → list_all is_ascii_digit text ≡ true → (k d : ℕ) → k < length text → IsTrue (is_ascii_digit (get_or text k d))
digit_at text all k d within = opposite (is_ascii_digit (get_or text k d)) (λ none. clash (list_all is_ascii_digit text) all (list_all_at is_ascii_digit text k d within none))
  where
    clash : (b : Bool) → b ≡ true → b ≡ false → ⊥
    clash b holds fails = absurd (cc)

    opposite : (b : Bool) → (b ≡ false → ⊥) → IsTrue b
    opposite true is = refl
    opposite false is = absurd (is refl)

cut_off : (n d most : ℕ) → min (min n most * 10 + d) most ≡ min (n * 10 + d) most
cut_off n d most = omega arith

cut_off_first : (n d most : ℕ) → min (10 * min n most + d) most ≡ min (10 * n + d) most
cut_off_first n d most = omega arith

pub value_more : (digits : List ℕ) (i : ℕ) (n r most : ℕ) → i < length digits → n ≡ min (digits_value 10 (take i digits)) most
    → r ≡ min (n * 10 + digit_value (get_or digits i 0)) most → r ≡ min (digits_value 10 (take (i + 1) digits)) most
value_more digits i n r most within before is =
    is ∙ ap (λ k. min (k * 10 + digit_value (get_or digits i 0)) most) before
    ∙ cut_off (digits_value 10 (take i digits)) (digit_value (get_or digits i 0)) most
    ∙ ap (λ k. min k most) (sym (digits_value_more 10 digits i within))

pub fold_of_more : (digits : List ℕ) (i : ℕ) (n r most : ℕ) → i < length digits → n ≡ min (fold with_digit 0 (take i digits)) most
    → r ≡ min (10 * n + (get_or digits i 0 - 48)) most → r ≡ min (fold with_digit 0 (take (i + 1) digits)) most
fold_of_more digits i n r most within before is =
    is ∙ ap (λ k. min (10 * k + (get_or digits i 0 - 48)) most) before
    ∙ cut_off_first (fold with_digit 0 (take i digits)) (get_or digits i 0 - 48) most
    ∙ ap (λ k. min k most) (sym (fold_more with_digit 0 digits i 0 within))
