use Rattle.tow_source.proofs.Dropping.{nothing_dropped}
use Rattle.tow_source.proofs.drain.Drain.run.Goals as goal

pub loop-init : goal.loop-init
loop-init g c = nothing_dropped _ _
