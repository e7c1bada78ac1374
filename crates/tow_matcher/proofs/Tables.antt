-- What a search in the table finds.
use Rattle.std.proofs.Common.{◌≡◌, ℕ, ◌+◌, ◌<◌, ◌≤◌, ◌⊎◌, Bool, true, false, List, [], ◌∷◌, ◌++◌, length, get_or, Option, Some, None, refl, sym, ap, subst, ◌∙◌, inl, inr, arith, length-append, true≢false, Bor}
use Rattle.std.specs.List.{slice_get, Contains, All}
use Rattle.std.specs.List.Sorted.{IsPermutation, IsPartitionedBy}
use Rattle.std.specs.List.Sorted.{IsSortedBy}
use Rattle.std.specs.Bool.{Decides}
use Rattle.std.specs.Fn.{Mut, Called, ComparesAs}
use Rattle.std.specs.Ordering.{is_lt}
use Rattle.std.specs.Str.{bytes_eq}
use Rattle.std.specs.Cmp.{IsStrictWeakOrder, IsTotalOrder}
use Rattle.std.specs.declared.cmp.Ordering.{Ordering}
use Rattle.std.proofs.lemmas.Fn.{always_returns_same}
use Rattle.std.proofs.lemmas.Slice.Eq.{bytes_eq-Decides}
use mathlib.Core.Bool.{beq}
use Rattle.std.proofs.lemmas.Bool.{cases_lt}
use Rattle.std.proofs.lemmas.List.Sorted.{ranks_by, sorted_far, All-permutation, Contains-permutation}
use Rattle.std.proofs.lemmas.List.Elements.{All-push}
use Rattle.std.proofs.Math.ListN.{get_or-append}
use Rattle.std.proofs.Math.Seq.{get_or-append_seam}
use Rattle.std.proofs.lemmas.Option.{none-some, same_Some, slice_get_within, slice_get-get_or, get_or_from_slice_get, slice_get_cases, slice_get_past}
use Rattle.tow_model.specs.Texts.{Text}
use Rattle.tow_matcher.specs.declared.row.Row.{Row}
use Rattle.tow_matcher.specs.Firsts.{HoldsOf, IsFirst}
use Rattle.tow_matcher.specs.Keys.{Rank, rank_of, rank_at, rank_cmp, stands_before, AreNumbers, IsPlaceOf, IsTable, IsOfKey}
use Rattle.tow_matcher.proofs.Ranks.{rank_total, squeezed, not_below}

pub AreNumbers-permutation : (count : ℕ) (xs ys : List ℕ) → IsPermutation xs ys → AreNumbers count xs → AreNumbers count ys
AreNumbers-permutation count xs ys moved are = record {
  below = All-permutation (λ n. n < count) xs ys moved are.below;
  whole = λ n low. Contains-permutation xs ys n moved (are.whole n low);
}

-- as the table is sorted
abbrev pub is_lower : List Row → ℕ → ℕ → Bool
is_lower rows a b = is_lt (rank_cmp (rank_at rows a) (rank_at rows b))

pub lower_ranks : (rows : List Row) → IsStrictWeakOrder (is_lower rows)
lower_ranks rows = ranks_by rank_total (rank_at rows)

numbered : (o : Option Row) (n : ℕ) → (rank_of o n).number ≡ n
numbered None n = refl
numbered (Some row) n = refl

-- the rank of a row of this kind and path
ranked : (rows : List Row) (kind : Bool) (path : Text) (m : ℕ) → HoldsOf (IsOfKey kind path) rows m → rank_at rows m ≡ record { prefix = kind; path = path; number = m }
ranked rows kind path m h =
    ap (λ o. rank_of o m) h.1 ∙ by h.0 h.2.0 h.2.1
  where
    by : (row : Row) → row.prefix ≡ kind → row.path ≡ path → rank_of (Some row) m ≡ record { prefix = kind; path = path; number = m }
    by row k p = λ i. record { prefix = k i; path = p i; number = m }

-- no row that stands before the key comes after one that does not
pub parted : (rows : List Row) (order : List ℕ) → IsTable rows order → (key : Rank) → IsPartitionedBy (stands_before rows key) order
parted rows order table key i j d le below passed = by (stands_before rows key (get_or order i d)) refl
  where
    chained : stands_before rows key (get_or order i d) ≡ false → stands_before rows key (get_or order j d) ≡ false
    chained fails =
        (ranks_by rank_total (λ r. r)).chain (rank_at rows (get_or order j d)) (rank_at rows (get_or order i d)) key
        (sorted_far (is_lower rows) (lower_ranks rows) order table.sorted i j d le below) fails

    by : (b : Bool) → stands_before rows key (get_or order i d) ≡ b → stands_before rows key (get_or order i d) ≡ true
    by true e = e
    by false e = absurd (true≢false (sym passed ∙ chained e))

abbrev key_from : Bool → Text → ℕ → Rank
key_from kind path from = record { prefix = kind; path = path; number = from }

module _ (rows : List Row) (order : List ℕ) (table : IsTable rows order) (kind : Bool) (path : Text) (from : ℕ) where
  module _ (at : ℕ) (point : IsPlaceOf rows (key_from kind path from) order at) where
    -- where a row of the kind and path stands
    place : (m : ℕ) → from ≤ m → HoldsOf (IsOfKey kind path) rows m → (j : ℕ) × (at ≤ j) × (j < length order) × (get_or order j m ≡ m)
    place m after h = by (table.numbers.whole m (slice_get_within rows m h.0 h.1))
      where
        behind : stands_before rows (key_from kind path from) m ≡ false
        behind = rw (ranked rows kind path m h) (not_below kind path from m after)

        by : Contains order m → (j : ℕ) × (at ≤ j) × (j < length order) × (get_or order j m ≡ m)
        by (j, low, is) = side (cases_lt j at)
          where
            side : (j < at) ⊎ (at ≤ j) → (j : ℕ) × (at ≤ j) × (j < length order) × (get_or order j m ≡ m)
            side (inl before) =
                let passed = point.0 j m (omega arith) before in
                absurd (true≢false (sym passed ∙ (ap (stands_before rows (key_from kind path from)) is ∙ behind)))
            side (inr later) = (j, later, low, is)

    pub ended : slice_get order at ≡ None → IsFirst (IsOfKey kind path) rows from None
    ended none m after h =
        let found = place m after h in let within : at < length order = omega (arith, found.1, found.2) in
        none-some (get_or order at m) (sym none ∙ slice_get-get_or order at m within)

    module _ (n : ℕ) (here : slice_get order at ≡ Some n) where
      not_before : stands_before rows (key_from kind path from) n ≡ false
      not_before =
          let within = slice_get_within order at n here in let e = get_or_from_slice_get order at n n here in
          ap (stands_before rows (key_from kind path from)) (sym e) ∙ point.1 at n (omega arith) within

      -- the row at the place stands between the key and each row of the kind and path from `from` on
      lowest : (m : ℕ) → from ≤ m → HoldsOf (IsOfKey kind path) rows m → ((rank_at rows n).prefix ≡ kind) × ((rank_at rows n).path ≡ path) × (n ≤ m)
      lowest m after h =
          let found = place m after h in let e = get_or_from_slice_get order at n m here in
          let up = sorted_far (is_lower rows) (lower_ranks rows) order table.sorted at found.0 m found.1 found.2 in
          let same : is_lower rows m n ≡ is_lower rows (get_or order found.0 m) (get_or order at m) = λ i. is_lower rows (sym found.3 i) (sym e i) in
          let above = ap (λ r. is_lt (rank_cmp r (rank_at rows n))) (sym (ranked rows kind path m h)) ∙ (same ∙ up) in
          let s = squeezed (rank_at rows n) kind path from m not_before above in
          (s.0, s.1, omega (arith, s.3, numbered (slice_get rows n) n))

      within_rows : n < length rows
      within_rows =
          let within = slice_get_within order at n here in let e = get_or_from_slice_get order at n n here in
          subst (λ k. k < length rows) e (table.numbers.below at n within)

      pub found_row : HoldsOf (IsOfKey kind path) rows n → IsFirst (IsOfKey kind path) rows from (Some n)
      found_row holds =
          let rank = ranked rows kind path n holds in
          let low : is_lt (rank_cmp (record { prefix = kind; path = path; number = n }) (record { prefix = kind; path = path; number = from })) ≡ false
          = ap (λ r. is_lt (rank_cmp r (record { prefix = kind; path = path; number = from }))) (sym rank) ∙ not_before in
          let s = squeezed (record { prefix = kind; path = path; number = n }) kind path from n low (not_below kind path n n (omega arith)) in
          (s.2, holds, λ m after h. (lowest m after h).2)

      pub missed : (HoldsOf (IsOfKey kind path) rows n → ⊥) → IsFirst (IsOfKey kind path) rows from None
      missed other m after h = by (slice_get_cases rows n).1
        where
          by : ((x : Row) × (n < length rows) × (slice_get rows n ≡ Some x) × (get_or rows n x ≡ x)) ⊎ ((length rows ≤ n) × (slice_get rows n ≡ None)) → ⊥
          by (inl x) =
              let s = lowest m after h in let r : rank_at rows n ≡ rank_of (Some x.0) n = ap (λ o. rank_of o n) x.2 in
              other (x.0, x.2, (ap (λ k. k.prefix) (sym r) ∙ s.0, ap (λ k. k.path) (sym r) ∙ s.1))
          by (inr x) = omega (arith, x.0, within_rows)

-- one number more
pub AreNumbers-more : (i : ℕ) (xs : List ℕ) → AreNumbers i xs → AreNumbers (i + 1) (xs ++ i ∷ [])
AreNumbers-more i xs are = record { below = below; whole = whole }
  where
    below : All (λ n. n < i + 1) (xs ++ i ∷ [])
    below = All-push (λ n. n < i + 1) xs i (λ k d low. let h = are.below k d low in omega (arith, h)) (omega arith)

    old : (n : ℕ) → Contains xs n → Contains (xs ++ i ∷ []) n
    old n (k, low, is) =
        (k, omega (arith, length-append xs (i ∷ [])), get_or-append xs (i ∷ []) n k low ∙ is)

    whole : (n : ℕ) → n < i + 1 → Contains (xs ++ i ∷ []) n
    whole n low = by (cases_lt n i)
      where
        by : (n < i) ⊎ (i ≤ n) → Contains (xs ++ i ∷ []) n
        by (inl less) = old n (are.whole n less)
        by (inr same) =
            let e : i ≡ n = omega arith in
            (length xs, omega (arith, length-append xs (i ∷ [])), get_or-append_seam xs i [] n ∙ e)

pub AreNumbers-none : AreNumbers 0 []
AreNumbers-none = record { below = λ k d low. absurd (omega arith); whole = λ n low. absurd (omega arith) }

-- from the clause `sorted` of a sort, where each call compares the keys of the two elements
pub IsSortedBy-from_sort : {K X : Type 0} {R : K → K → Ordering} → IsTotalOrder R → (key : X → K)
    → {F : Type 0} {g : Mut F (Bor X × (Bor X × Unit {0})) Ordering} {f : F} (xs : List X)
    → ((lt : X → X → Bool) → IsStrictWeakOrder lt → ComparesAs g lt f → IsSortedBy lt xs)
    → ((a : Bor X × (Bor X × Unit {0})) (r : Ordering) (f' : F) → Called g f a r f' → (r ≡ R (key a.0.now) (key a.1.0.now)) × (f' ≡ f))
    → IsSortedBy (λ x y. is_lt (R (key x) (key y))) xs
IsSortedBy-from_sort {R = R} o key {g = g} {f = f} xs up h =
    up (λ x y. is_lt (R (key x) (key y))) (ranks_by o key)
    (always_returns_same g (λ a r. is_lt r ≡ is_lt (R (key a.0.now) (key a.1.0.now))) f (λ a r f' k. (ap is_lt (h a r f' k).0, (h a r f' k).1)))

-- what `get` says of an element
pub got : {X : Type 0} (xs : List X) (i : ℕ) (x : X) → i < length xs → ((d : X) → x ≡ get_or xs i d) → slice_get xs i ≡ Some x
got xs i x within is = slice_get-get_or xs i x within ∙ ap Some (sym (is x))

pub got_none : {X : Type 0} (xs : List X) (i : ℕ) → length xs ≤ i → slice_get xs i ≡ None
got_none xs i past = slice_get_past xs i past

same_bool : (a b : Bool) → beq a b ≡ true → a ≡ b
same_bool true true e = refl
same_bool true false e = absurd (true≢false (sym e))
same_bool false true e = absurd (true≢false (sym e))
same_bool false false e = refl

is_same_bool : (a b : Bool) → a ≡ b → beq a b ≡ false → ⊥
is_same_bool true true e f = true≢false f
is_same_bool true false e f = true≢false e
is_same_bool false true e f = true≢false (sym e)
is_same_bool false false e f = true≢false f

module _ (rows : List Row) (n : ℕ) (kind : Bool) (path : Text) (row : Row) (here : slice_get rows n ≡ Some row) where
  pub of_kind : (r : Bool) → beq row.prefix kind ≡ true → r ≡ bytes_eq row.path path → Decides r (HoldsOf (IsOfKey kind path) rows n)
  of_kind r same is = (
    λ is_it. (row, here, (same_bool row.prefix kind same, (bytes_eq-Decides row.path path).0 (sym is ∙ is_it))),
    λ h. let e = same_Some row h.0 (sym here ∙ h.1) in is ∙ (bytes_eq-Decides row.path path).1 (ap (λ k. k.path) e ∙ h.2.1),
  )

  pub of_other_kind : beq row.prefix kind ≡ false → HoldsOf (IsOfKey kind path) rows n → ⊥
  of_other_kind other h =
      let e = same_Some row h.0 (sym here ∙ h.1) in is_same_bool row.prefix kind (ap (λ k. k.prefix) e ∙ h.2.0) other

pub of_no_row : (rows : List Row) (n : ℕ) (kind : Bool) (path : Text) → length rows ≤ n → HoldsOf (IsOfKey kind path) rows n → ⊥
of_no_row rows n kind path past h = none-some h.0 (sym (got_none rows n past) ∙ h.1)
