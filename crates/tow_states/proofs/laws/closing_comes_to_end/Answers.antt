use Rattle.tow_states.proofs.Ends.{closing_comes_to_end}
use Rattle.tow_states.proofs.laws.closing_comes_to_end.Goals as goal

pub returns : goal.returns
returns c = closing_comes_to_end
