use Rattle.std.proofs.Common.{◌≡◌, ◌++◌, ◌+◌, ◌*◌, ◌≤◌, map, length}
use Rattle.tow_program.specs.Programs.{instructions_of, joined}
use Rattle.tow_program.proofs.Weights.{statement_weight, other_weight, weights}
use Rattle.tow_program.proofs.statements.+put.Given as goal

abbrev pub decreases-put_statement : goal.decreases-put_statement
decreases-put_statement l = 2 * statement_weight l.statement

abbrev pub decreases-put_condition : goal.decreases-put_condition
decreases-put_condition l = 2 * (statement_weight l.yes + other_weight l.other) + 1

abbrev pub decreases-put_all : goal.decreases-put_all
decreases-put_all l = 2 * weights l.statements + 1

-- The statements that are left, put before what stands, are all of them before what stood.
abbrev pub invariant-put_all-loop-statement : goal.invariant-put_all-loop-statement
invariant-put_all-loop-statement l =
    (joined (map instructions_of l.left) ++ l.program ≡ joined (map instructions_of l.initial.left) ++ l.initial.program)
    × (weights l.left ≤ weights l.initial.left)

abbrev pub decreases-put_all-loop-statement : goal.decreases-put_all-loop-statement
decreases-put_all-loop-statement l = length l.left
