use Rattle.std.proofs.Common.{◌≡◌, ◌++◌, take}
use Rattle.tow_language.specs.Templates.{spelled_piece}
use Rattle.tow_model.specs.declared.attribute.Piece.TheVariants as pieces
use Rattle.tow_print.specs.Words.{bytes_in}
use Rattle.tow_print.proofs.printer.templates.put_literal.Given as goal

abbrev pub invariant-loop-byte : goal.invariant-loop-byte
invariant-loop-byte l = l.text.items ≡ l.initial.text.items ++ bytes_in l.style (spelled_piece (pieces.Literal (take l.byte-index l.literal)))
