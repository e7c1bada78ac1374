use Rattle.tow_stages.proofs.Heads.{refusals_lead_on}
use Rattle.tow_stages.proofs.laws.refusals_lead_on.Goals as goal

pub returns : goal.returns
returns c = refusals_lead_on
