use Rattle.tow_states.proofs.Heads.{reading_begins}
use Rattle.tow_states.proofs.laws.reading_begins.Goals as goal

pub returns : goal.returns
returns c = reading_begins
