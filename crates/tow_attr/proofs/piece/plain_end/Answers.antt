use Rattle.std.proofs.Common.{◌∙◌, sym, arith}
use Rattle.tow_attr.proofs.Places.{plain_goes, plain_here}
use Rattle.tow_attr.proofs.piece.plain_end.Goals as goal

pub loop-at-init : goal.loop-at-init
loop-at-init c = (omega arith, c.requires, plain_here c.args.text.now c.args.from)

pub loop-at-preserved : goal.loop-at-preserved
loop-at-preserved c = (
  omega arith,
  omega arith,
  c.loop-at.invariant.2 ∙ plain_goes c.args.text.now c.args.from c.loop-at.at (omega arith) (omega arith) (sym c.value_at.ensures ∙ c.if-not-value_at.true),
)
