-- Numbers of decimal digits.
use Rattle.std.specs.Prelude.{◌≡◌, ℕ, ◌+◌, ◌-◌, ◌*◌, ◌^◌, ◌<◌, ◌≤◌, Bool, true, false, List, length, get_or, fold, take}
use Rattle.std.specs.Char.{is_ascii_digit}
use Rattle.std.specs.List.{list_all}
use Rattle.std.proofs.Common.{refl, arith}
use Rattle.std.proofs.Math.Nat.{pow-le-pow_right}
use Rattle.std.proofs.lemmas.List.Folds.{list_all_at}
use Rattle.std.proofs.lemmas.List.Sums.{fold_more}

-- the number with one more digit
abbrev pub with_digit : ℕ → ℕ → ℕ
with_digit m d = 10 * m + (d - 48)

-- a byte of a text of digits is a digit
pub digit_at : (digits : List ℕ) (i : ℕ) → list_all is_ascii_digit digits ≡ true → i < length digits → (48 ≤ get_or digits i 0) × (get_or digits i 0 ≤ 57)
digit_at digits i all lt = by_test (is_ascii_digit (get_or digits i 0)) refl
  where
    by_test : (t : Bool) → is_ascii_digit (get_or digits i 0) ≡ t → (48 ≤ get_or digits i 0) × (get_or digits i 0 ≤ 57)
    by_test true e = (grind arith, grind arith)
    by_test false e = let f = list_all_at is_ascii_digit digits i 0 lt e in absurd cc

-- a number of fewer than ten digits has room for one more in 64 bits
pub room : (m i : ℕ) → m < 10 ^ i → i < 10 → m < 1000000000
room m i below few = let le = pow-le-pow_right {n = 10} (omega arith) {i = i} {j = 9} (omega arith) in omega (arith, le)

pub digit_more : (digits : List ℕ) (i m : ℕ) → i < length digits → m ≡ fold with_digit 0 (take i digits) →
    with_digit m (get_or digits i 0) ≡ fold with_digit 0 (take (i + 1) digits)
digit_more digits i m lt e = let f = fold_more with_digit 0 digits i 0 lt in cc
