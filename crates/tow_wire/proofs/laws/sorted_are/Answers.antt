use Rattle.tow_wire.proofs.SortLemmas.{sorted_are}
use Rattle.tow_wire.proofs.laws.sorted_are.Goals as goal

pub returns : goal.returns
returns c = sorted_are
