use Rattle.tow_states.proofs.Heads.{refusal_is_put}
use Rattle.tow_states.proofs.laws.refusal_is_put.Goals as goal

pub returns : goal.returns
returns c = refusal_is_put
