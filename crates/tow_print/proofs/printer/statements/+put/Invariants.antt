use Rattle.std.proofs.Common.{◌≡◌, ◌++◌, map, take}
use Rattle.tow_language.specs.Printed.{printed_statement}
use Rattle.tow_print.specs.Parts.{parts_behind, before_part}
use Rattle.tow_print.proofs.printer.statements.+put.Given as goal

abbrev pub invariant-put_block-loop-part : goal.invariant-put_block-loop-part
invariant-put_block-loop-part l = record {
  text : l.text.items ≡ l.initial.text.items ++ parts_behind (map printed_statement (take l.part-index l.parts));
  between : l.between ≡ before_part (map printed_statement (take l.part-index l.parts));
}
