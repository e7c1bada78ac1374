use Rattle.std.proofs.Common.{◌≡◌, ◌++◌, take}
use Rattle.tow_language.specs.Templates.{spelled_template}
use Rattle.tow_print.specs.Words.{bytes_in}
use Rattle.tow_print.proofs.printer.templates.put_pieces.Given as goal

abbrev pub invariant-loop-piece : goal.invariant-loop-piece
invariant-loop-piece l = l.text.items ≡ l.initial.text.items ++ bytes_in l.style (spelled_template (take l.piece-index l.template))
