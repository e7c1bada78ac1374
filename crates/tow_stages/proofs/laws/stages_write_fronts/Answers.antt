use Rattle.tow_stages.proofs.Ends.{stages_write_fronts}
use Rattle.tow_stages.proofs.laws.stages_write_fronts.Goals as goal

pub returns : goal.returns
returns c = stages_write_fronts
