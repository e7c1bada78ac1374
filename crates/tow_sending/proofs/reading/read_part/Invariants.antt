use Rattle.std.proofs.Common.{◌-◌, length}
use Rattle.tow_sending.specs.Readings.{IsReadSoFar}
use Rattle.tow_sending.proofs.reading.read_part.Given as goal

abbrev pub invariant-loop-got : goal.invariant-loop-got
invariant-loop-got g l =
    IsReadSoFar (g.F.Folder.shows l.initial.folder) (g.F.Folder.shows l.folder) l.k l.path l.from l.initial.to l.to l.got

abbrev pub decreases-loop-got : goal.decreases-loop-got
decreases-loop-got g l = length l.initial.to - l.got
