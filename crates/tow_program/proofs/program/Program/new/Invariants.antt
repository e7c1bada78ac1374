use Rattle.std.proofs.Common.{◌≡◌, ◌++◌, drop}
use Rattle.tow_program.specs.Actions.{bounds_in, logs_from}
use Rattle.tow_program.proofs.program.Program.new.Given as goal

-- what was noted, and then what the instructions that are left have, is the whole
abbrev pub invariant-loop-instruction : goal.invariant-loop-instruction
invariant-loop-instruction l =
    (l.at ≡ l.instruction-index)
    × (l.logs ++ logs_from l.at (drop l.instruction-index l.instruction-items) ≡ logs_from 0 l.instruction-items)
    × (l.limits ++ bounds_in (drop l.instruction-index l.instruction-items) ≡ bounds_in l.instruction-items)
