use Rattle.tow_progress.proofs.AccountLemmas.{done_follows}
use Rattle.tow_progress.proofs.laws.done_follows.Goals as goal

pub returns : goal.returns
returns c = done_follows
