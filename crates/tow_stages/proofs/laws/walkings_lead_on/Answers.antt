use Rattle.tow_stages.proofs.Walks.{walkings_lead_on}
use Rattle.tow_stages.proofs.laws.walkings_lead_on.Goals as goal

pub returns : goal.returns
returns c = walkings_lead_on
