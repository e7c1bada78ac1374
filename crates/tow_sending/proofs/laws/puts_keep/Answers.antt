use Rattle.tow_sending.proofs.Texts.{puts_keep}
use Rattle.tow_sending.proofs.laws.puts_keep.Goals as goal

pub returns : goal.returns
returns c = puts_keep
