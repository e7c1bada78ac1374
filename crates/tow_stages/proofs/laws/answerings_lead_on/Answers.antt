use Rattle.tow_stages.proofs.Answers.{answerings_lead_on}
use Rattle.tow_stages.proofs.laws.answerings_lead_on.Goals as goal

pub returns : goal.returns
returns c = answerings_lead_on
