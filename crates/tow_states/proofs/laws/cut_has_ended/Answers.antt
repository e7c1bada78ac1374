use Rattle.tow_states.proofs.Ends.{cut_has_ended}
use Rattle.tow_states.proofs.laws.cut_has_ended.Goals as goal

pub returns : goal.returns
returns c = cut_has_ended
