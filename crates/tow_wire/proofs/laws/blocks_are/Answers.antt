use Rattle.tow_wire.proofs.BlockLemmas.{blocks_are}
use Rattle.tow_wire.proofs.laws.blocks_are.Goals as goal

pub returns : goal.returns
returns c = blocks_are
