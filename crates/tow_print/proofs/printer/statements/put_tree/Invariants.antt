use Rattle.std.proofs.Common.{◌≡◌, ◌++◌, take}
use Rattle.tow_language.specs.Printed.{print_of}
use Rattle.tow_print.proofs.printer.statements.put_tree.Given as goal

abbrev pub invariant-loop-statement : goal.invariant-loop-statement
invariant-loop-statement l = l.text.items ≡ l.initial.text.items ++ print_of (take l.statement-index l.tree)
