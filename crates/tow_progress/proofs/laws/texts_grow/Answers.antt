use Rattle.tow_progress.proofs.Growing.{texts_grow}
use Rattle.tow_progress.proofs.laws.texts_grow.Goals as goal

pub returns : goal.returns
returns c = texts_grow
