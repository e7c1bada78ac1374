use Rattle.std.proofs.Common.{refl}
use Rattle.tow_parse.proofs.Transport.{pass_on, pass_empty}
use Rattle.tow_parse.proofs.state.State.next_goal.Goals as goal

pub returns-in-Some-2-clause-some : goal.returns-in-Some-2-clause-some
returns-in-Some-2-clause-some c =
    let m = rw c.in-Some-2.is at c.in_ok-next-in-Some.ensures.some in
    pass_on c.args.self.now.goals c.args.self.now c.passing.self _ c.args.look c.in-Some.goal c.pop.new.self _ c.pass.new.self m c.passing.invariant c.in-Some.ensures.some refl refl

pub passing-preserved : goal.passing-preserved
passing-preserved c =
    let m = rw c.in-None-2.is at c.in_ok-next-in-Some.ensures.none in
    pass_on c.args.self.now.goals c.args.self.now c.passing.self _ c.args.look c.in-Some.goal c.pop.new.self _ c.pass.new.self m c.passing.invariant c.in-Some.ensures.some refl refl

pub returns-in-None-clause-none : goal.returns-in-None-clause-none
returns-in-None-clause-none c = pass_empty c.args.self.now.goals c.args.self.now c.passing.self _ c.args.look c.passing.invariant c.in-None.ensures.none refl refl
