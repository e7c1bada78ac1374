use Rattle.std.proofs.Common.{◌+◌, ◌≤◌, ◌-◌, length}
use Rattle.tow_link.specs.Calls.{Moves}
use Rattle.tow_link.proofs.reading.read_whole.Given as goal

abbrev pub invariant-reads : goal.invariant-reads
invariant-reads g l = record {
  within : length l.bytes.items ≤ l.most + 1;
  read : Moves (g.S.Source.shows l.initial.source).told (g.S.Source.shows l.source).told l.bytes.items;
  later : (g.S.Source.shows l.initial.source).faults ≤ (g.S.Source.shows l.source).faults;
}

abbrev pub decreases-reads : goal.decreases-reads
decreases-reads g l = l.most + 1 - length l.bytes.items
