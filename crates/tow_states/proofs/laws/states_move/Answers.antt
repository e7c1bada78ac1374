use Rattle.tow_states.proofs.Moves.{states_move}
use Rattle.tow_states.proofs.laws.states_move.Goals as goal

pub returns : goal.returns
returns c = states_move
