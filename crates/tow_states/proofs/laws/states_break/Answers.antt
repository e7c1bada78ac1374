use Rattle.tow_states.proofs.Breaks.{states_break}
use Rattle.tow_states.proofs.laws.states_break.Goals as goal

pub returns : goal.returns
returns c = states_break
