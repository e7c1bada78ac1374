-- Which rows hold for a path, and which of them is the first.
use Rattle.std.specs.Prelude.{◌≡◌, ℕ, ◌+◌, ◌≤◌, Bool, List, [], ◌∷◌, drop, min, if◌then◌else◌, Option, Some, None, slice_get}
use Rattle.std.specs.Str.{bytes_eq}
use Rattle.tow_model.specs.Texts.{Text}
use Rattle.tow_model.specs.Paths.{is_prefix}
use Rattle.tow_matcher.specs.declared.row.Row.{Row}

-- the row holds for the path: the path is the row's, or, of a prefix, lies under it
abbrev pub row_holds : Text → Row → Bool
row_holds path row = if row.prefix then is_prefix row.path path else bytes_eq row.path path

-- the number of the first row that passes, where the rows are numbered from n on
abbrev pub first_at : (Row → Bool) → ℕ → List Row → Option ℕ
first_at p n [] = None
first_at p n (row ∷ rows) = if p row then Some n else first_at p (n + 1) rows

-- the number of the first row, from the number `from` on, that holds for the path
abbrev pub first_row : List Row → Text → ℕ → Option ℕ
first_row rows path from = first_at (row_holds path) from (drop from rows)

-- the row of this number is one of which P holds
abbrev pub HoldsOf : (Row → Type 0) → List Row → ℕ → Type 0
HoldsOf P rows n = (row : Row) × (slice_get rows n ≡ Some row) × P row

-- the lowest number from `from` on of a row of which P holds, or none if there is no such row
abbrev pub IsFirst : (Row → Type 0) → List Row → ℕ → Option ℕ → Type 0
IsFirst P rows from None = (m : ℕ) → from ≤ m → HoldsOf P rows m → ⊥
IsFirst P rows from (Some n) = (from ≤ n) × HoldsOf P rows n × ((m : ℕ) → from ≤ m → HoldsOf P rows m → n ≤ m)

-- the lower of two numbers that may be missing
abbrev pub earlier_of : Option ℕ → Option ℕ → Option ℕ
earlier_of None b = b
earlier_of (Some a) None = Some a
earlier_of (Some a) (Some b) = Some (min a b)
