use Rattle.tow_states.proofs.Answers.{answer_is_sent}
use Rattle.tow_states.proofs.laws.answer_is_sent.Goals as goal

pub returns : goal.returns
returns c = answer_is_sent
