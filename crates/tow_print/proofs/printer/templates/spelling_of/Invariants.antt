use Rattle.std.proofs.Common.{◌≡◌, ℕ, List, ◌++◌, drop}
use Rattle.tow_language.specs.Templates.{spelled_template}
use Rattle.tow_print.specs.Words.{ahead}
use Rattle.tow_print.proofs.printer.templates.spelling_of.Given as goal

abbrev pub invariant-loop-piece : goal.invariant-loop-piece
invariant-loop-piece l = (bytes : List ℕ) →
    ahead l.seen (spelled_template (drop l.piece-index l.template) ++ bytes) ≡ ahead l.fn.seen (spelled_template l.template ++ bytes)
