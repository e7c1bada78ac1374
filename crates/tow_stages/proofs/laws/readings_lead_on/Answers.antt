use Rattle.tow_stages.proofs.Heads.{readings_lead_on}
use Rattle.tow_stages.proofs.laws.readings_lead_on.Goals as goal

pub returns : goal.returns
returns c = readings_lead_on
