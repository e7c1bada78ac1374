use Rattle.tow_progress.proofs.InsideLemmas.{inside_is_kept}
use Rattle.tow_progress.proofs.laws.inside_is_kept.Goals as goal

pub returns : goal.returns
returns c = inside_is_kept
