use Rattle.tow_program.proofs.Acting.{formats_are_tree}
use Rattle.tow_program.proofs.laws.formats_are_tree.Goals as goal

pub returns : goal.returns
returns c = formats_are_tree
