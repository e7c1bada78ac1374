use Rattle.tow_states.proofs.Gathers.{content_is_taken}
use Rattle.tow_states.proofs.laws.content_is_taken.Goals as goal

pub returns : goal.returns
returns c = content_is_taken
