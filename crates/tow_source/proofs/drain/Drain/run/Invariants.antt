use Rattle.std.proofs.Common.{length}
use Rattle.tow_source.specs.Readings.{Onward}
use Rattle.tow_source.proofs.Dropping.{Dropped}
use Rattle.tow_source.proofs.drain.Drain.run.Given as goal

abbrev pub invariant-loop : goal.invariant-loop
invariant-loop g l =
    Onward (g.S.BodySource.reads l.fn.self.source) (g.S.BodySource.reads l.self.source) (Dropped l.fn.from l.from)

abbrev pub decreases-loop : goal.decreases-loop
decreases-loop g l = length l.from.items
