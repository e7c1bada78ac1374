use Rattle.std.proofs.Common.{rules, refl, ◌≡◌, true, false}
use Rattle.tow_parse.specs.Moves.{ends_at}
use Rattle.tow_parse.proofs.Stepping.{not_ended_at, ended_at}
use Rattle.tow_parse.proofs.step.Reader.finish.Goals as goal

pub returns-then-not-may_end-clause-err : goal.returns-then-not-may_end-clause-err
returns-then-not-may_end-clause-err c =
    let off : ends_at c.in_ok-next.next ≡ false = search rules in
    (refl, not_ended_at c.args.self c.next_goal.new.self c.in_ok-next.next c.in_ok-next.ensures.some c.in_ok-next.ensures.waits off)

pub returns-clause-ok : goal.returns-clause-ok
returns-clause-ok c =
    let on : ends_at c.in_ok-next.next ≡ true = search rules in
    ended_at c.args.self c.next_goal.new.self c.in_ok-next.next c.in_ok-next.ensures.some c.in_ok-next.ensures.none on
