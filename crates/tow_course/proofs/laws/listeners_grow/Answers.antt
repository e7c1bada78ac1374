use Rattle.tow_course.proofs.Growing.{listeners_grow}
use Rattle.tow_course.proofs.laws.listeners_grow.Goals as goal

pub returns : goal.returns
returns c = listeners_grow
