use Rattle.std.proofs.Common.{length}
use Rattle.tow_source.specs.Readings.{Onward}
use Rattle.tow_content.specs.Gatherings.{Gathers}
use Rattle.tow_content.proofs.Collecting.{Took}
use Rattle.tow_content.proofs.gathering.Gathering.run.Given as goal

abbrev pub invariant-loop-count : goal.invariant-loop-count
invariant-loop-count l = Onward (Gathers l.fn.self) (Gathers l.self) (Took l.fn.from l.from)

abbrev pub decreases-loop-count : goal.decreases-loop-count
decreases-loop-count l = length l.from.items
