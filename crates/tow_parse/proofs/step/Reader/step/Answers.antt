use Rattle.std.proofs.Common.{subst, ◌∷◌, [], IfSome, IfNone}
use Rattle.tow_language.specs.Symbols.{symbol_of}
use Rattle.tow_fit.specs.declared.fault.ParseFault.TheVariants.{Unexpected}
use Rattle.tow_parse.specs.Moves.{Passes}
use Rattle.tow_parse.proofs.Stepping.{steps, halts, nothing_follows}
use Rattle.tow_parse.proofs.Transport.{ok_then, err_then}
use Rattle.tow_parse.proofs.step.Reader.step.Goals as goal

pub returns-in-Some-clause-ok : goal.returns-in-Some-clause-ok
returns-in-Some-clause-ok c =
    let off = c.is_blank.ensures.no c.if-is_blank.false in
    let p = subst (λ k. IfSome k (λ g. Passes c.args.self.now.state.goals c.args.self.now.state c.look_at-look.result (g ∷ c.next_goal.new.self.goals) c.next_goal.new.self)) c.in-Some.is c.in_ok-goal.ensures.some in
    ok_then c.take.result _ _ (λ t. steps c.args.self.now c.look_at-look.result (symbol_of c.args.text.now c.args.token) c.look_at-look.ensures off (c.in-Some.goal ∷ c.next_goal.new.self.goals) c.next_goal.new.self p (record { state = c.take.new.self; depth = c.open_after-self.result }) t c.open_after-self.ensures.opened) c.take.ensures.ok

pub returns-in-Some-clause-err : goal.returns-in-Some-clause-err
returns-in-Some-clause-err c =
    let off = c.is_blank.ensures.no c.if-is_blank.false in
    let p = subst (λ k. IfSome k (λ g. Passes c.args.self.now.state.goals c.args.self.now.state c.look_at-look.result (g ∷ c.next_goal.new.self.goals) c.next_goal.new.self)) c.in-Some.is c.in_ok-goal.ensures.some in
    err_then c.take.result _ _ (halts c.args.self.now c.look_at-look.result (symbol_of c.args.text.now c.args.token) c.look_at-look.ensures off (c.in-Some.goal ∷ c.next_goal.new.self.goals) c.next_goal.new.self p) c.take.ensures.err

pub returns-in-None-clause-err : goal.returns-in-None-clause-err
returns-in-None-clause-err c =
    let off = c.is_blank.ensures.no c.if-is_blank.false in
    let p = subst (λ k. IfNone k (Passes c.args.self.now.state.goals c.args.self.now.state c.look_at-look.result [] c.next_goal.new.self)) c.in-None.is c.in_ok-goal.ensures.none in
    halts c.args.self.now c.look_at-look.result (symbol_of c.args.text.now c.args.token) c.look_at-look.ensures off [] c.next_goal.new.self p (Unexpected c.args.token.from) (nothing_follows c.next_goal.new.self (symbol_of c.args.text.now c.args.token))
