use Rattle.tow_message.proofs.FirstHeads.{finds_head}
use Rattle.tow_message.proofs.laws.head_is_found.Goals as goal

pub returns : goal.returns
returns c = finds_head c.args.input.now
