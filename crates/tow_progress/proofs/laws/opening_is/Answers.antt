use Rattle.tow_progress.proofs.Fronts.{opening_is}
use Rattle.tow_progress.proofs.laws.opening_is.Goals as goal

pub returns : goal.returns
returns c = opening_is
