use Rattle.tow_stages.proofs.Gathers.{gatherings_lead_on}
use Rattle.tow_stages.proofs.laws.gatherings_lead_on.Goals as goal

pub returns : goal.returns
returns c = gatherings_lead_on
