use Rattle.tow_message.proofs.StreamExists.{stream_is_there}
use Rattle.tow_message.proofs.laws.stream_is_there.Goals as goal

pub returns : goal.returns
returns c = stream_is_there c.args.peer c.args.input.now
