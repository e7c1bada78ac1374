use Rattle.tow_sending.proofs.Texts.{parts_stay}
use Rattle.tow_sending.proofs.laws.parts_stay.Goals as goal

pub returns : goal.returns
returns c = parts_stay
