use Rattle.tow_leads.proofs.WalkSteps.{walks_lead_on}
use Rattle.tow_leads.proofs.laws.walks_lead_on.Goals as goal

pub returns : goal.returns
returns c = walks_lead_on
