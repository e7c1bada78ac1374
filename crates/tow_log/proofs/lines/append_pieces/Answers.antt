use Rattle.std.proofs.Common.{arith}
use Rattle.tow_model.specs.declared.limits.TheConstants.{MAX_VALUE_LEN}
use Rattle.tow_attr.proofs.Cutting.{cut_here}
use Rattle.tow_log.proofs.lines.append_pieces.Goals as goal

pub returns-then-len-ge-MAX_VALUE_LEN : goal.returns-then-len-ge-MAX_VALUE_LEN
returns-then-len-ge-MAX_VALUE_LEN c =
    let e = c.loop-piece.out.ok.0 in
    let f = c.len.ensures in
    let g = c.if-len-ge-MAX_VALUE_LEN.true in
    cut_here MAX_VALUE_LEN c.loop-piece.out.items _ _ c.loop-piece.invariant (omega (arith, e, f, g))
