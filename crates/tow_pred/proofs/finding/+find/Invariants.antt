use Rattle.std.proofs.Common.{◌≡◌, ◌++◌, take}
use Rattle.tow_pred.specs.Found.{told}
use Rattle.tow_pred.specs.Numbering.{tree_patterns}
use Rattle.tow_pred.proofs.finding.+find.Given as goal

abbrev pub invariant-find_in_tree-loop-statement : goal.invariant-find_in_tree-loop-statement
invariant-find_in_tree-loop-statement l =
    told l.found.items ≡ told l.initial.found.items ++ tree_patterns (take l.statement-index l.statements)
