use Rattle.tow_progress.proofs.WholeLemmas.{whole_is_written}
use Rattle.tow_progress.proofs.laws.whole_is_written.Goals as goal

pub returns : goal.returns
returns c = whole_is_written
