use Rattle.std.proofs.Common.{◌≡◌, ◌-◌, suc, ap, ◌∙◌, drop, arith}
use Rattle.tow_path.specs.Output.{has_slash}
use Rattle.tow_path.proofs.Outputs.{last_found, last_nowhere}
use Rattle.tow_path.proofs.resolving.last_slash.Goals as goal

pub returns-then-path-at-eq47-clause-front : goal.returns-then-path-at-eq47-clause-front
returns-then-path-at-eq47-clause-front c =
    let path = c.args.path.now in let at = c.loop-at.at in
    let e : suc (at - 1) ≡ at = omega arith in
    let within = c.loop-at.invariant.within in
    last_found path (at - 1) (omega arith) c.if-path-at-eq47.true (ap (λ k. has_slash (drop k path)) e ∙ c.loop-at.invariant.none_behind)

pub returns-clause-front : goal.returns-clause-front
returns-clause-front c =
    let path = c.args.path.now in let e : 0 ≡ c.loop-at.at = omega arith in
    last_nowhere path (ap (λ k. has_slash (drop k path)) e ∙ c.loop-at.invariant.none_behind)
