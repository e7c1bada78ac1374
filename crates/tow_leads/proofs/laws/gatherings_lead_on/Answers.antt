use Rattle.tow_leads.proofs.Takings.{gatherings_lead_on}
use Rattle.tow_leads.proofs.laws.gatherings_lead_on.Goals as goal

pub returns : goal.returns
returns c = gatherings_lead_on
