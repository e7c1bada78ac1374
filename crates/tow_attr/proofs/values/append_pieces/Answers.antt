use Rattle.std.proofs.Common.{arith}
use Rattle.tow_model.specs.declared.limits.TheConstants.{MAX_VALUE_LEN}
use Rattle.tow_attr.proofs.Cutting.{cut_here}
use Rattle.tow_attr.proofs.values.append_pieces.Goals as goal

pub returns-then-len-ge-LONGEST_VALUE : goal.returns-then-len-ge-LONGEST_VALUE
returns-then-len-ge-LONGEST_VALUE c =
    let e = c.loop-piece.out.ok.0 in
    let f = c.len.ensures in
    let g = c.if-len-ge-LONGEST_VALUE.true in
    cut_here MAX_VALUE_LEN c.loop-piece.out.items _ _ c.loop-piece.invariant (omega (arith, e, f, g))
