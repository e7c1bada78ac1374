use Rattle.tow_leads.proofs.Answers.{replies_lead_on}
use Rattle.tow_leads.proofs.laws.replies_lead_on.Goals as goal

pub returns : goal.returns
returns c = replies_lead_on
