use Rattle.tow_progress.proofs.Fronts.{front_follows}
use Rattle.tow_progress.proofs.laws.front_follows.Goals as goal

pub returns : goal.returns
returns c = front_follows
