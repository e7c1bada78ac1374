use Rattle.tow_progress.proofs.MetLemmas.{wire_is_texts}
use Rattle.tow_progress.proofs.laws.wire_is_texts.Goals as goal

pub returns : goal.returns
returns c = wire_is_texts
