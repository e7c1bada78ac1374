use Rattle.tow_stages.proofs.Ends.{failures_lead_on}
use Rattle.tow_stages.proofs.laws.failures_lead_on.Goals as goal

pub returns : goal.returns
returns c = failures_lead_on
