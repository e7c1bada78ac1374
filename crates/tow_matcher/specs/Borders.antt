-- How long prefixes are, and which rows have a path.
use Rattle.std.specs.Prelude.{◌≡◌, ℕ, ◌<◌, true, List, length, Some, slice_get}
use Rattle.tow_model.specs.Texts.{Text}
use Rattle.tow_matcher.specs.declared.row.Row.{Row}

-- each prefix is shorter than the reach
abbrev pub ArePrefixesBelow : ℕ → List Row → Type 0
ArePrefixesBelow reach rows =
    (n : ℕ) (row : Row) → slice_get rows n ≡ Some row → row.prefix ≡ true → length row.path < reach

-- the path is the row's, of either kind
abbrev pub HasPath : Text → Row → Type 0
HasPath path row = row.path ≡ path
