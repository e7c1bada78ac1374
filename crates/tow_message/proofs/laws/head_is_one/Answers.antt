use Rattle.tow_message.proofs.FirstHeads.{head_is_one}
use Rattle.tow_message.proofs.laws.head_is_one.Goals as goal

pub returns : goal.returns
returns c = head_is_one c.args.input.now
