-- The first row of rows to which more are added.
use Rattle.std.proofs.Common.{◌≡◌, ℕ, zero, suc, ◌+◌, ◌-◌, ◌<◌, ◌≤◌, Bool, true, false, ◌||◌, List, [], ◌∷◌, ◌++◌, map, length, drop, if◌then◌else◌, Option, Some, None, slice_get, refl, sym, ap, ◌∙◌, arith}
use Rattle.std.specs.List.{list_any}
use Rattle.std.proofs.lemmas.List.{drop-append-le, length-drop}
use Rattle.tow_model.specs.Texts.{Text}
use Rattle.tow_matcher.specs.declared.row.Row.{Row}
use Rattle.tow_matcher.specs.Firsts.{first_at, first_row, row_holds}

-- what is found first, or else second
abbrev pub or_later : Option ℕ → Option ℕ → Option ℕ
or_later None later = later
or_later (Some n) later = Some n

one_more : (b : Bool) (n : ℕ) (all some rest : Option ℕ) → all ≡ or_later some rest →
    (if b then Some n else all) ≡ or_later (if b then Some n else some) rest
one_more true n all some rest e = refl
one_more false n all some rest e = e

first_at-append : (p : Row → Bool) (n : ℕ) (xs ys : List Row) → first_at p n (xs ++ ys) ≡ or_later (first_at p n xs) (first_at p (n + length xs) ys)
first_at-append p n [] ys = let e : n ≡ n + 0 = omega arith in ap (λ k. first_at p k ys) e
first_at-append p n (x ∷ xs) ys =
    let e : n + 1 + length xs ≡ n + suc (length xs) = omega arith in
    one_more (p x) n (first_at p (n + 1) (xs ++ ys)) (first_at p (n + 1) xs) (first_at p (n + suc (length xs)) ys)
    (first_at-append p (n + 1) xs ys ∙ ap (λ k. or_later (first_at p (n + 1) xs) (first_at p k ys)) e)

pub first_row-append : (rows more : List Row) (path : Text) (from : ℕ) → from ≤ length rows →
    first_row (rows ++ more) path from ≡ or_later (first_row rows path from) (first_at (row_holds path) (length rows) more)
first_row-append rows more path from low =
    let long : length (drop from rows) ≡ length rows - from = length-drop from rows in
    let e : from + length (drop from rows) ≡ length rows = omega (arith, long, low) in
    ap (first_at (row_holds path) from) (drop-append-le from rows more low)
    ∙ first_at-append (row_holds path) from (drop from rows) more
    ∙ ap (λ n. or_later (first_row rows path from) (first_at (row_holds path) n more)) e

abbrev found_by : (Row → Bool) → ℕ → List Row → Bool → Option ℕ
found_by p n xs b = if b then Some n else first_at p (n + 1) xs

pub found_within : (p : Row → Bool) (n : ℕ) (xs : List Row) (k : ℕ) → first_at p n xs ≡ Some k → (n ≤ k) × (k < n + length xs)
found_within p n [] k e = absurd cc
found_within p n (x ∷ xs) k e = by (p x) refl (found_within p (n + 1) xs k)
  where
    by : (b : Bool) → p x ≡ b → (first_at p (n + 1) xs ≡ Some k → (n + 1 ≤ k) × (k < n + 1 + length xs)) → (n ≤ k) × (k < n + length (x ∷ xs))
    by true is deeper =
        let found : Some n ≡ Some k = sym (ap (found_by p n xs) is) ∙ e in
        let same : n ≡ k = cc in
        (omega (arith, same), omega (arith, same))
    by false is deeper =
        let d = deeper (sym (ap (found_by p n xs) is) ∙ e) in
        (omega (arith, d.0), omega (arith, d.1))

pub one_holds : (p : Row → Bool) (n : ℕ) (xs : List Row) (k : ℕ) → first_at p n xs ≡ Some k → list_any p xs ≡ true
one_holds p n [] k e = absurd cc
one_holds p n (x ∷ xs) k e = by (p x) refl (one_holds p (n + 1) xs k)
  where
    by : (b : Bool) → p x ≡ b → (first_at p (n + 1) xs ≡ Some k → list_any p xs ≡ true) → list_any p (x ∷ xs) ≡ true
    by true is deeper = ap (λ b. b || list_any p xs) is
    by false is deeper = ap (λ b. b || list_any p xs) is ∙ deeper (sym (ap (found_by p n xs) is) ∙ e)

pub none_holds : (p : Row → Bool) (n : ℕ) (xs : List Row) → first_at p n xs ≡ None → list_any p xs ≡ false
none_holds p n [] e = refl
none_holds p n (x ∷ xs) e = by (p x) refl (none_holds p (n + 1) xs)
  where
    by : (b : Bool) → p x ≡ b → (first_at p (n + 1) xs ≡ None → list_any p xs ≡ false) → list_any p (x ∷ xs) ≡ false
    by true is deeper = let found : Some n ≡ None = sym (ap (found_by p n xs) is) ∙ e in absurd cc
    by false is deeper = ap (λ b. b || list_any p xs) is ∙ deeper (sym (ap (found_by p n xs) is) ∙ e)

-- the places of rows that are added
pub place_added : (places : List ℕ) (more : List Row) (at n : ℕ) → length places ≤ n → n < length places + length more →
    slice_get (places ++ map (λ row. at) more) n ≡ Some at
place_added [] [] at n low high = absurd (omega (arith, high))
place_added [] (row ∷ more) at zero low high = refl
place_added [] (row ∷ more) at (suc n) low high = place_added [] more at n (omega arith) (omega (arith, high))
place_added (x ∷ places) more at zero low high = absurd (omega (arith, low))
place_added (x ∷ places) more at (suc n) low high = place_added places more at n (omega (arith, low)) (omega (arith, high))

pub place_kept : (places added : List ℕ) (n : ℕ) → n < length places → slice_get (places ++ added) n ≡ slice_get places n
place_kept [] added n low = absurd (omega (arith, low))
place_kept (x ∷ places) added zero low = refl
place_kept (x ∷ places) added (suc n) low = place_kept places added n (omega (arith, low))
