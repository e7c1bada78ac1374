-- The first row of many that holds: there is one answer, the definition has it, and two answers make one for both.
use Rattle.std.proofs.Common.{◌≡◌, ℕ, zero, suc, ◌+◌, ◌-◌, ◌<◌, ◌≤◌, ◌⊎◌, Bool, true, false, List, [], ◌∷◌, drop, length, min, if◌then◌else◌, Option, Some, None, IfSome, refl, sym, ap, ◌∙◌, inl, inr, arith}
use Rattle.std.specs.List.{slice_get}
use Rattle.std.proofs.Math.Nat.{min-eq_left, min-eq_right}
use Rattle.std.proofs.lemmas.Bool.{cases_lt}
use Rattle.std.proofs.lemmas.Option.{slice_get_within}
use Rattle.tow_model.specs.Texts.{Text}
use Rattle.tow_matcher.specs.declared.row.Row.{Row}
use Rattle.tow_matcher.specs.Firsts.{row_holds, first_at, first_row, HoldsOf, IsFirst, earlier_of}

pub IsFirst-unique : (P : Row → Type 0) (rows : List Row) (from : ℕ) (a b : Option ℕ) → IsFirst P rows from a → IsFirst P rows from b → a ≡ b
IsFirst-unique P rows from None None f g = refl
IsFirst-unique P rows from None (Some m) f g = absurd (f m g.0 g.1)
IsFirst-unique P rows from (Some n) None f g = absurd (g n f.0 f.1)
IsFirst-unique P rows from (Some n) (Some m) f g =
    let low : n ≤ m = f.2 m g.0 g.1 in let high : m ≤ n = g.2 n f.0 f.1 in
    let same : n ≡ m = omega arith in ap Some same

module _ (P R : Row → Type 0) (rows : List Row) (there : (n : ℕ) (row : Row) → slice_get rows n ≡ Some row → P row → R row)
    (back : (n : ℕ) (row : Row) → slice_get rows n ≡ Some row → R row → P row) where
  pub IsFirst-same : (from : ℕ) (a : Option ℕ) → IsFirst P rows from a → IsFirst R rows from a
  IsFirst-same from None f = λ m after h. f m after (h.0, h.1, back m h.0 h.1 h.2)
  IsFirst-same from (Some n) f =
      (f.0, (f.1.0, f.1.1, there n f.1.0 f.1.1 f.1.2), λ m after h. f.2 m after (h.0, h.1, back m h.0 h.1 h.2))

-- what a first row says of its number alone
pub first_within : (P : Row → Type 0) (rows : List Row) (from : ℕ) (a : Option ℕ) → IsFirst P rows from a → IfSome a (λ n. (from ≤ n) × (n < length rows))
first_within P rows from None f = tt
first_within P rows from (Some n) f = (f.0, slice_get_within rows n f.1.0 f.1.1)

module _ (P Q R : Row → Type 0) (left : (row : Row) → P row → R row) (right : (row : Row) → Q row → R row) (one : (row : Row) → R row → P row ⊎ Q row) where
  neither : (rows : List Row) (n : ℕ) → (HoldsOf P rows n → ⊥) → (HoldsOf Q rows n → ⊥) → HoldsOf R rows n → ⊥
  neither rows n p q h = by (one h.0 h.2)
    where
      by : P h.0 ⊎ Q h.0 → ⊥
      by (inl x) = p (h.0, h.1, x)
      by (inr x) = q (h.0, h.1, x)

  above : (rows : List Row) (n m : ℕ) → (HoldsOf P rows m → n ≤ m) → (HoldsOf Q rows m → n ≤ m) → HoldsOf R rows m → n ≤ m
  above rows n m p q h = by (one h.0 h.2)
    where
      by : P h.0 ⊎ Q h.0 → n ≤ m
      by (inl x) = p (h.0, h.1, x)
      by (inr x) = q (h.0, h.1, x)

  pub earlier_is : (rows : List Row) (from : ℕ) (a b : Option ℕ) → IsFirst P rows from a → IsFirst Q rows from b → IsFirst R rows from (earlier_of a b)
  earlier_is rows from None None f g = λ m after h. neither rows m (f m after) (g m after) h
  earlier_is rows from None (Some n) f g =
      (g.0, (g.1.0, g.1.1, right g.1.0 g.1.2), λ m after h. above rows n m (λ x. absurd (f m after x)) (g.2 m after) h)
  earlier_is rows from (Some n) None f g =
      (f.0, (f.1.0, f.1.1, left f.1.0 f.1.2), λ m after h. above rows n m (f.2 m after) (λ x. absurd (g m after x)) h)
  earlier_is rows from (Some n) (Some k) f g = side (cases_lt n k)
    where
      side : (n < k) ⊎ (k ≤ n) → IsFirst R rows from (Some (min n k))
      side (inl less) =
          let low : n ≤ k = omega arith in
          rw (min-eq_left low)
          (f.0, (f.1.0, f.1.1, left f.1.0 f.1.2), λ m after h. above rows n m (f.2 m after) (λ x. omega (arith, g.2 m after x)) h)
      side (inr low) =
          rw (min-eq_right low)
          (g.0, (g.1.0, g.1.1, right g.1.0 g.1.2), λ m after h. above rows k m (λ x. omega (arith, f.2 m after x)) (g.2 m after) h)

-- what `first_at` finds, by the place in the list
abbrev Finds : (Row → Bool) → ℕ → List Row → Option ℕ → Type 0
Finds p n rows None = (k : ℕ) (row : Row) → slice_get rows k ≡ Some row → p row ≡ true → ⊥
Finds p n rows (Some m) =
    (k : ℕ) × (m ≡ n + k) × HoldsOf (λ row. p row ≡ true) rows k × ((j : ℕ) (row : Row) → slice_get rows j ≡ Some row → p row ≡ true → k ≤ j)

passed : (p : Row → Bool) (n : ℕ) (r : Row) (rs : List Row) (o : Option ℕ) → p r ≡ false → Finds p (n + 1) rs o → Finds p n (r ∷ rs) o
passed p n r rs None e f = by
  where
    by : (k : ℕ) (row : Row) → slice_get (r ∷ rs) k ≡ Some row → p row ≡ true → ⊥
    by zero row g t = cc (ap p (same_row g))
      where
        same_row : Some r ≡ Some row → r ≡ row
        same_row g = cc
    by (suc k) row g t = f k row g t
passed p n r rs (Some m) e f =
    let at : m ≡ n + suc f.0 = omega (arith, f.1) in
    (suc f.0, at, f.2, by)
  where
    by : (j : ℕ) (row : Row) → slice_get (r ∷ rs) j ≡ Some row → p row ≡ true → suc f.0 ≤ j
    by zero row g t = absurd (cc (ap p (same_row g)))
      where
        same_row : Some r ≡ Some row → r ≡ row
        same_row g = cc
    by (suc j) row g t = omega (arith, f.3 j row g t)

step : (p : Row → Bool) (n : ℕ) (r : Row) (rs : List Row) (o : Option ℕ) (b : Bool) → p r ≡ b → Finds p (n + 1) rs o → Finds p n (r ∷ rs) (if b then Some n else o)
step p n r rs o true e f = (0, omega arith, (r, refl, e), λ j row g t. omega arith)
step p n r rs o false e f = passed p n r rs o e f

finds : (p : Row → Bool) (n : ℕ) (rows : List Row) → Finds p n rows (first_at p n rows)
finds p n [] = λ k row g t. cc
finds p n (r ∷ rs) = step p n r rs (first_at p (n + 1) rs) (p r) refl (finds p (n + 1) rs)

slice_get-drop : (rows : List Row) (n k m : ℕ) → m ≡ n + k → slice_get (drop n rows) k ≡ slice_get rows m
slice_get-drop rows zero k m e = ap (slice_get rows) (omega (arith, e))
slice_get-drop [] (suc n) k m e = refl
slice_get-drop (r ∷ rs) (suc n) k zero e = absurd (omega (arith, e))
slice_get-drop (r ∷ rs) (suc n) k (suc m) e = slice_get-drop rs n k m (omega (arith, e))

from_finds : (p : Row → Bool) (rows : List Row) (from : ℕ) (o : Option ℕ) → Finds p from (drop from rows) o → IsFirst (λ row. p row ≡ true) rows from o
from_finds p rows from None f = λ m after h. f (m - from) h.0 (slice_get-drop rows from (m - from) m (omega arith) ∙ h.1) h.2
from_finds p rows from (Some n) f =
    let low : from ≤ n = omega (arith, f.1) in (
      low,
      (f.2.0, sym (slice_get-drop rows from f.0 n f.1) ∙ f.2.1, f.2.2),
      λ m after h. let k : f.0 ≤ m - from = f.3 (m - from) h.0 (slice_get-drop rows from (m - from) m (omega arith) ∙ h.1) h.2 in omega (arith, f.1),
    )

pub first_row_is : (rows : List Row) (path : Text) (from : ℕ) → IsFirst (λ row. row_holds path row ≡ true) rows from (first_row rows path from)
first_row_is rows path from = from_finds (row_holds path) rows from (first_row rows path from) (finds (row_holds path) from (drop from rows))
