use Rattle.std.proofs.Common.{length, ◌-◌, ◌≡◌, ◌≤◌, slice_range}
use Rattle.tow_attr.specs.Reading.{rest_from, plain_ahead}
use Rattle.tow_attr.proofs.piece.plain_end.Given as goal

abbrev pub invariant-loop-at : goal.invariant-loop-at
invariant-loop-at l =
    (l.from ≤ l.at) × (l.at ≤ length l.text) × (rest_from l.text l.from ≡ plain_ahead (slice_range l.text l.from l.at) (rest_from l.text l.at))

abbrev pub decreases-loop-at : goal.decreases-loop-at
decreases-loop-at l = length l.text - l.at
