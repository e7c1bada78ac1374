use Rattle.std.proofs.Common.{ap, sym, ◌∙◌}
use Rattle.tow_language.specs.Templates.{spelled_piece}
use Rattle.tow_language.specs.Tokens.{last_byte}
use Rattle.tow_print.proofs.Pieces.{last_of_more}
use Rattle.tow_print.proofs.printer.endings.ends_with_backslash.Goals as goal

pub loop-piece-preserved : goal.loop-piece-preserved
loop-piece-preserved c =
    c.last_of_piece-last.ensures ∙ ap (λ k. last_byte k (spelled_piece c.piece-item.result)) c.loop-piece.invariant
    ∙ sym (last_of_more 0 c.args.template.now c.loop-piece.piece-index c.piece-item.result c.loop-piece-test.true c.piece-item.is)
