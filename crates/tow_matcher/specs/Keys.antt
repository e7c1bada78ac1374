-- The order of the table.
use Rattle.std.specs.Prelude.{◌≡◌, ℕ, ◌<◌, Bool, true, false, List, [], length, Option, Some, None, All, slice_get}
use Rattle.std.specs.List.{Contains}
use Rattle.std.specs.List.Sorted.{IsSortedBy, IsPartitionPoint}
use Rattle.std.specs.Ordering.{is_lt, bool_cmp, nat_cmp, ordering_then}
use Rattle.std.specs.Cmp.Lexicographic.{slice_cmp}
use Rattle.std.specs.declared.cmp.Ordering.{Ordering}
use Rattle.tow_model.specs.Texts.{Text}
use Rattle.tow_matcher.specs.declared.row.Row.{Row}
use Rattle.tow_matcher.specs.declared.table.Key.{Key}

-- a key with its path as a text
pub record Rank : Type 0 where
  pub prefix : Bool
  pub path : Text
  pub number : ℕ

abbrev pub shown : Key → Rank
shown key = record { prefix = key.prefix; path = key.path.now; number = key.number }

-- by kind, then by the bytes of the path, then by number
abbrev pub rank_cmp : Rank → Rank → Ordering
rank_cmp a b =
    ordering_then (bool_cmp a.prefix b.prefix) (ordering_then (slice_cmp nat_cmp a.path b.path) (nat_cmp a.number b.number))

-- of a row, or of no row
abbrev pub rank_of : Option Row → ℕ → Rank
rank_of None n = record { prefix = false; path = []; number = n }
rank_of (Some row) n = record { prefix = row.prefix; path = row.path; number = n }

abbrev pub rank_at : List Row → ℕ → Rank
rank_at rows n = rank_of (slice_get rows n) n

-- the row of this number stands before the key
abbrev pub stands_before : List Row → Rank → ℕ → Bool
stands_before rows key n = is_lt (rank_cmp (rank_at rows n) key)

-- the rows before the place stand before the key, and the others do not
abbrev pub IsPlaceOf : List Row → Rank → List ℕ → ℕ → Type 0
IsPlaceOf rows key order place =
    IsPartitionPoint (λ n. stands_before rows key n ≡ true) (λ n. stands_before rows key n ≡ false) order place

-- each number below the count, and no other
pub record AreNumbers (count : ℕ) (numbers : List ℕ) : Type 0 where
  pub below : All (λ n. n < count) numbers
  pub whole : (n : ℕ) → n < count → Contains numbers n

-- the numbers of the rows, none after one of a higher rank
pub record IsTable (rows : List Row) (order : List ℕ) : Type 0 where
  pub numbers : AreNumbers (length rows) order
  pub sorted : IsSortedBy (λ a b. is_lt (rank_cmp (rank_at rows a) (rank_at rows b))) order

-- the row is of this kind and has this path
abbrev pub IsOfKey : Bool → Text → Row → Type 0
IsOfKey prefix path row = (row.prefix ≡ prefix) × (row.path ≡ path)
