use Rattle.tow_progress.proofs.CutLemmas.{cut_follows}
use Rattle.tow_progress.proofs.laws.cut_follows.Goals as goal

pub returns : goal.returns
returns c = cut_follows
