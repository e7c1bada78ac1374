use Rattle.tow_states.proofs.Ends.{last_is_done}
use Rattle.tow_states.proofs.laws.last_is_done.Goals as goal

pub returns : goal.returns
returns c = last_is_done
