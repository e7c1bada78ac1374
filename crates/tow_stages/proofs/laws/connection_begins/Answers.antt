use Rattle.tow_stages.proofs.Ends.{connection_begins}
use Rattle.tow_stages.proofs.laws.connection_begins.Goals as goal

pub returns : goal.returns
returns c = connection_begins
