use Rattle.tow_stages.proofs.Moves.{writes_lead_on}
use Rattle.tow_stages.proofs.laws.writes_lead_on.Goals as goal

pub returns : goal.returns
returns c = writes_lead_on
