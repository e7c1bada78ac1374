use Rattle.tow_message.proofs.StreamLemmas.{stream_is_one}
use Rattle.tow_message.proofs.laws.stream_is_one.Goals as goal

pub returns : goal.returns
returns c = stream_is_one c.args.peer c.args.input.now
