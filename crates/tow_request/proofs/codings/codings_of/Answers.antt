use Rattle.std.proofs.Common.{List, codes, sym, subst, arith}
use Rattle.tow_model.specs.Texts.{Text}
use Rattle.tow_request.specs.Refusals.{Sums}
use Rattle.tow_request.proofs.Listing.{line_more}
use Rattle.tow_request.proofs.codings.codings_of.Goals as goal

pub loop-line-preserved : goal.loop-line-preserved
loop-line-preserved c =
    subst (λ (l : List Text). Sums l c.with_line-codings.result)
    (sym (line_more (codes "transfer-encoding") c.args.bytes.now c.args.lines.now c.loop-line.line-index _ (omega arith)))
    (c.with_line-codings.ensures _ c.loop-line.invariant)
