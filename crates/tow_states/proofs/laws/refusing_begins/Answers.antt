use Rattle.tow_states.proofs.Heads.{refusing_begins}
use Rattle.tow_states.proofs.laws.refusing_begins.Goals as goal

pub returns : goal.returns
returns c = refusing_begins
