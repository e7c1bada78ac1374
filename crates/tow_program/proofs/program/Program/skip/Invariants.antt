use Rattle.std.proofs.Common.{◌≡◌, ◌-◌, length}
use Rattle.tow_program.specs.Skips.{skipped}
use Rattle.tow_program.proofs.program.Program.skip.Given as goal

abbrev pub invariant-loop-place : goal.invariant-loop-place
invariant-loop-place l = skipped l.self l.path l.at ≡ skipped l.self l.path l.initial.at

abbrev pub decreases-loop-place : goal.decreases-loop-place
decreases-loop-place l = length l.self - l.at
