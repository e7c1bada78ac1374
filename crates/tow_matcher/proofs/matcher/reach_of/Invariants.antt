use Rattle.std.proofs.Common.{◌≡◌, ◌<◌, ℕ, Some, true, length}
use Rattle.std.specs.List.{slice_get}
use Rattle.tow_matcher.specs.declared.row.Row.{Row}
use Rattle.tow_matcher.proofs.matcher.reach_of.Given as goal

abbrev pub invariant-loop-row : goal.invariant-loop-row
invariant-loop-row l =
    (n : ℕ) (row : Row) → n < l.row-index → slice_get l.rows n ≡ Some row → row.prefix ≡ true → length row.path < l.reach
