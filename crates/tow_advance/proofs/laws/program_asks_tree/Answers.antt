use Rattle.tow_advance.proofs.Asked.{program_asks_tree}
use Rattle.tow_advance.proofs.laws.program_asks_tree.Goals as goal

pub returns : goal.returns
returns c = program_asks_tree
