use Rattle.tow_states.proofs.Leavings.{request_stays_inside}
use Rattle.tow_states.proofs.laws.request_stays_inside.Goals as goal

pub returns : goal.returns
returns c = request_stays_inside
