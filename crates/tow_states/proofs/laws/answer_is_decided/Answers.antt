use Rattle.tow_states.proofs.Answers.{answer_is_decided}
use Rattle.tow_states.proofs.laws.answer_is_decided.Goals as goal

pub returns : goal.returns
returns c = answer_is_decided
