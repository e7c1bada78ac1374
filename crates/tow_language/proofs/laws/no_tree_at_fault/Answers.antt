use Rattle.tow_language.proofs.Kept.{is_no_tree_at_fault}
use Rattle.tow_language.proofs.laws.no_tree_at_fault.Goals as goal

pub returns : goal.returns
returns c = is_no_tree_at_fault
