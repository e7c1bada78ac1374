use Rattle.tow_sending.proofs.Texts.{pieces_are}
use Rattle.tow_sending.proofs.laws.pieces_are.Goals as goal

pub returns : goal.returns
returns c = pieces_are
