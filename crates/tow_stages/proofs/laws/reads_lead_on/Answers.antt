use Rattle.tow_stages.proofs.Moves.{reads_lead_on}
use Rattle.tow_stages.proofs.laws.reads_lead_on.Goals as goal

pub returns : goal.returns
returns c = reads_lead_on
