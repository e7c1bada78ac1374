use Rattle.tow_program.specs.Tables.{AreEntered}
use Rattle.tow_program.proofs.table.Table.new.Given as goal

abbrev pub invariant-loop-start : goal.invariant-loop-start
invariant-loop-start l = AreEntered l.instructions l.start l.table.runs l.table.entries.items
