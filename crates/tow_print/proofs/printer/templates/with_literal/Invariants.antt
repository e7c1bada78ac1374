use Rattle.std.proofs.Common.{◌≡◌, ℕ, List, ◌++◌, drop}
use Rattle.tow_language.specs.Templates.{spelled_piece}
use Rattle.tow_model.specs.declared.attribute.Piece.TheVariants as pieces
use Rattle.tow_print.specs.Words.{ahead}
use Rattle.tow_print.proofs.printer.templates.with_literal.Given as goal

abbrev pub invariant-loop-byte : goal.invariant-loop-byte
invariant-loop-byte l = (bytes : List ℕ) →
    ahead l.seen (spelled_piece (pieces.Literal (drop l.byte-index l.literal)) ++ bytes) ≡ ahead l.fn.seen (spelled_piece (pieces.Literal l.literal) ++ bytes)
