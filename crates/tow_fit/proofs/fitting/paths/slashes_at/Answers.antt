use Rattle.std.proofs.Common.{◌∙◌, sym, arith}
use Rattle.tow_fit.proofs.Slashes.{slash_before, other_before}
use Rattle.tow_fit.proofs.fitting.paths.slashes_at.Goals as goal

pub loop-end-preserved : goal.loop-end-preserved
loop-end-preserved c =
    let path = c.args.path.now in let end = c.loop-end.end in
    (omega arith, slash_before path end (omega arith) c.loop-end.invariant.0 c.if-path-end-eq47.true ∙ c.loop-end.invariant.1)

pub returns-else-path-end-eq47-clause-before : goal.returns-else-path-end-eq47-clause-before
returns-else-path-end-eq47-clause-before c =
    let path = c.args.path.now in let end = c.loop-end.end in
    sym (other_before path end (omega arith) c.loop-end.invariant.0 c.if-path-end-eq47.false) ∙ c.loop-end.invariant.1
