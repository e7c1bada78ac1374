use Rattle.std.proofs.Common.{◌∙◌, sym, arith}
use Rattle.tow_lex.proofs.Runs.{white_step}
use Rattle.tow_lex.proofs.gap.gap_end.Goals as goal

pub loop-at-preserved : goal.loop-at-preserved
loop-at-preserved c = (
  omega arith,
  omega arith,
  λ to le short. c.loop-at.invariant.2 to (omega arith) short
      ∙ white_step c.args.text.now c.loop-at.at to (omega arith) (omega arith) (sym c.is_white.ensures ∙ c.if-is_white.true),
)
