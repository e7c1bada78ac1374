use Rattle.tow_progress.proofs.Fronts.{kept_front_follows}
use Rattle.tow_progress.proofs.laws.kept_front_follows.Goals as goal

pub returns : goal.returns
returns c = kept_front_follows
