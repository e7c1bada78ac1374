use Rattle.std.proofs.Common.{◌≡◌, ◌-◌, ◌≤◌, length, take}
use Rattle.std.specs.Io.KnownBytes.{append_known}
use Rattle.tow_link.proofs.writing.write_all.Given as goal

abbrev pub invariant-writes : goal.invariant-writes
invariant-writes g l = record {
  within : l.at ≤ length l.bytes;
  written : (g.K.Sink.shows l.sink).written ≡ append_known (g.K.Sink.shows l.initial.sink).written (take l.at l.bytes);
  later : (g.K.Sink.shows l.initial.sink).faults ≤ (g.K.Sink.shows l.sink).faults;
}

abbrev pub decreases-writes : goal.decreases-writes
decreases-writes g l = length l.bytes - l.at
