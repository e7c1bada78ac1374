use Rattle.tow_walks.proofs.Staying.{cut_short_is_broken}
use Rattle.tow_walks.proofs.laws.cut_short_is_broken.Goals as goal

pub returns : goal.returns
returns c = cut_short_is_broken
