use Rattle.tow_states.proofs.Ends.{reading_ends}
use Rattle.tow_states.proofs.laws.reading_ends.Goals as goal

pub returns : goal.returns
returns c = reading_ends
