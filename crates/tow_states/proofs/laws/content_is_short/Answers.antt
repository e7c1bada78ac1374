use Rattle.tow_states.proofs.Completions.{content_is_short}
use Rattle.tow_states.proofs.laws.content_is_short.Goals as goal

pub returns : goal.returns
returns c = content_is_short
