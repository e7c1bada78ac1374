use Rattle.tow_leads.proofs.Takings.{drains_lead_on}
use Rattle.tow_leads.proofs.laws.drains_lead_on.Goals as goal

pub returns : goal.returns
returns c = drains_lead_on
