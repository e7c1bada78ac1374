use Rattle.tow_wire.proofs.WireLemmas.{wires_grow}
use Rattle.tow_wire.proofs.laws.wires_grow.Goals as goal

pub returns : goal.returns
returns c = wires_grow
