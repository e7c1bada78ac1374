use Rattle.tow_program.proofs.Acting.{actions_are_tree}
use Rattle.tow_program.proofs.laws.actions_are_tree.Goals as goal

pub returns : goal.returns
returns c = actions_are_tree
