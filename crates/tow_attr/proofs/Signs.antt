-- A text at its first `=`, by the place of it.
use Rattle.std.specs.Prelude.{◌≡◌, ℕ, suc, ◌+◌, ◌≤◌, Bool, true, false, not, ◌==◌, List, [], ◌∷◌, length, take, drop, Some, None, if◌then◌else◌, cond, nat_lt}
use Rattle.std.specs.List.{position_or_len}
use Rattle.std.specs.Option.{unwrap_or}
use Rattle.std.proofs.Common.{refl, ◌∙◌, ap, arith}
use Rattle.std.proofs.lemmas.Bool.Decides.{nat_tests}
use Rattle.std.proofs.lemmas.List.Sums.{prefix_len-le-length}
use Rattle.tow_model.specs.Texts.{before, after}

abbrev place : ℕ → List ℕ → ℕ
place c text = position_or_len (λ b. b == c) text

take_one_more : (n b : ℕ) (bs : List ℕ) → take (1 + n) (b ∷ bs) ≡ b ∷ take n bs
take_one_more n b bs = let e : 1 + n ≡ suc n = omega arith in ap (λ k. take k (b ∷ bs)) e

drop_one_more : (n b : ℕ) (bs : List ℕ) → drop (1 + n + 1) (b ∷ bs) ≡ drop (n + 1) bs
drop_one_more n b bs = let e : 1 + n + 1 ≡ suc (n + 1) = omega arith in ap (λ k. drop k (b ∷ bs)) e

pub before_place : (c : ℕ) (text : List ℕ) → take (place c text) text ≡ before c text
before_place c [] = refl
before_place c (b ∷ bs) = by_test (b == c) (before_place c bs)
  where
    by_test : (t : Bool) → take (place c bs) bs ≡ before c bs → take (cond (not t) (1 + place c bs) 0) (b ∷ bs) ≡ (if t then [] else b ∷ before c bs)
    by_test true e = refl
    by_test false e = take_one_more (place c bs) b bs ∙ ap (λ k. b ∷ k) e

pub after_place : (c : ℕ) (text : List ℕ) → drop (place c text + 1) text ≡ unwrap_or (after c text) []
after_place c [] = refl
after_place c (b ∷ bs) = by_test (b == c) (after_place c bs)
  where
    by_test : (t : Bool) → drop (place c bs + 1) bs ≡ unwrap_or (after c bs) [] →
        drop (cond (not t) (1 + place c bs) 0 + 1) (b ∷ bs) ≡ unwrap_or (if t then Some bs else after c bs) []
    by_test true e = refl
    by_test false e = drop_one_more (place c bs) b bs ∙ e

-- the place as `position` tells it
pub place_told : (c : ℕ) (text : List ℕ) → unwrap_or (cond (nat_lt (place c text) (length text)) (Some (place c text)) None) (length text) ≡ place c text
place_told c text = by_test (nat_lt (place c text) (length text)) refl
  where
    within : place c text ≤ length text
    within = prefix_len-le-length (λ b. not (b == c)) text

    past : (n m : ℕ) → nat_lt n m ≡ false → m ≤ n
    past n m e = grind (arith, nat_tests)

    by_test : (t : Bool) → nat_lt (place c text) (length text) ≡ t → unwrap_or (cond t (Some (place c text)) None) (length text) ≡ place c text
    by_test true e = refl
    by_test false e = let le = past (place c text) (length text) e in omega (arith, le, within)
