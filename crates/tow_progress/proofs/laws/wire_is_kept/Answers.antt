use Rattle.tow_progress.proofs.StepLemmas.{wire_is_kept}
use Rattle.tow_progress.proofs.laws.wire_is_kept.Goals as goal

pub returns : goal.returns
returns c = wire_is_kept
