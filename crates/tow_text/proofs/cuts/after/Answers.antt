use Rattle.std.proofs.Common.{Some, ap, ◌∙◌, arith}
use Rattle.tow_text.proofs.Fronts.{no_after, after_at}
use Rattle.tow_text.proofs.cuts.after.Goals as goal

pub returns-then-len-text : goal.returns-then-len-text
returns-then-len-text c = no_after c.args.byte c.args.text.now _ c.len_before-len.ensures c.if-len-text.true

pub returns : goal.returns
returns c =
    ap (λ k. Some k) c.split_at.ensures.back ∙ after_at c.args.byte c.args.text.now _ c.len_before-len.ensures (omega arith)
