use Rattle.tow_stages.proofs.Closes.{closings_lead_on}
use Rattle.tow_stages.proofs.laws.closings_lead_on.Goals as goal

pub returns : goal.returns
returns c = closings_lead_on
