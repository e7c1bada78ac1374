use Rattle.std.proofs.Common.{◌≡◌, ◌+◌, ◌≤◌, ℕ, length, slice_range}
use Rattle.std.specs.List.{list_all}
use Rattle.tow_attr.proofs.Shapes.{is_inside}
use Rattle.tow_attr.proofs.piece.value_end.Given as goal

abbrev pub invariant-loop-at : goal.invariant-loop-at
invariant-loop-at l =
    (to : ℕ) → l.at ≤ to → to ≤ length l.text → list_all is_inside (slice_range l.text (l.from + 2) to) ≡ list_all is_inside (slice_range l.text l.at to)
