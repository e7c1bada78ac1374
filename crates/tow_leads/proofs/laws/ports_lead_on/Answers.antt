use Rattle.tow_leads.proofs.PortSteps.{ports_lead_on}
use Rattle.tow_leads.proofs.laws.ports_lead_on.Goals as goal

pub returns : goal.returns
returns c = ports_lead_on
