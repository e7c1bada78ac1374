use Rattle.tow_progress.proofs.WholeLemmas.{kept_whole_is_written}
use Rattle.tow_progress.proofs.laws.kept_whole_is_written.Goals as goal

pub returns : goal.returns
returns c = kept_whole_is_written
