use Rattle.tow_message.proofs.ContentLemmas.{content_is_one}
use Rattle.tow_message.proofs.laws.content_is_one.Goals as goal

pub returns : goal.returns
returns c = content_is_one c.args.framing c.args.input.now
