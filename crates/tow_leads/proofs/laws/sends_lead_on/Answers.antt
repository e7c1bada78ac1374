use Rattle.tow_leads.proofs.Puttings.{sends_lead_on}
use Rattle.tow_leads.proofs.laws.sends_lead_on.Goals as goal

pub returns : goal.returns
returns c = sends_lead_on
