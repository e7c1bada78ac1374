use Rattle.tow_progress.proofs.Opens.{answers_settle}
use Rattle.tow_progress.proofs.laws.answers_settle.Goals as goal

pub returns : goal.returns
returns c = answers_settle
