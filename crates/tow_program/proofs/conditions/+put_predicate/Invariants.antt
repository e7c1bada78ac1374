use Rattle.std.proofs.Common.{◌≡◌, ◌++◌, ◌≤◌, length}
use Rattle.tow_program.specs.Programs.{asking}
use Rattle.tow_program.proofs.Weights.{weight}
use Rattle.tow_program.proofs.conditions.+put_predicate.Given as goal

abbrev pub decreases-put_predicate : goal.decreases-put_predicate
decreases-put_predicate l = weight l.predicate

-- What is left, put before what stands, is the whole predicate before what stood.
abbrev pub invariant-loop-left : goal.invariant-loop-left
invariant-loop-left l =
    (asking l.left l.holds l.fails ++ l.program ≡ asking l.initial.left l.initial.holds l.initial.fails ++ l.initial.program)
    × (l.holds ≤ length l.program) × (l.fails ≤ length l.program) × (weight l.left ≤ weight l.initial.left)

abbrev pub decreases-loop-left : goal.decreases-loop-left
decreases-loop-left l = weight l.left
