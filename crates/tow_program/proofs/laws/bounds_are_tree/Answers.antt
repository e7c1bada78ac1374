use Rattle.tow_program.proofs.Acting.{bounds_are_tree}
use Rattle.tow_program.proofs.laws.bounds_are_tree.Goals as goal

pub returns : goal.returns
returns c = bounds_are_tree
