use Rattle.tow_sending.proofs.Texts.{parts_are_there}
use Rattle.tow_sending.proofs.laws.parts_are_there.Goals as goal

pub returns : goal.returns
returns c = parts_are_there
