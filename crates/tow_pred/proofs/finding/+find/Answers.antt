use Rattle.tow_pred.proofs.Trees.{patterns_in_block}
use Rattle.tow_pred.proofs.finding.+find.Goals as goal

pub find_in_statement-returns-in-Block : goal.find_in_statement-returns-in-Block
find_in_statement-returns-in-Block t c = rw (c.in-Block.is, patterns_in_block) (rw c.as_slice.ensures at c.find_in_tree.ensures)
