use Rattle.std.proofs.Common.{refl, subst, false, [], ◌∷◌}
use Rattle.std.proofs.lemmas.Result.{err_from_is_err_and}
use Rattle.tow_language.specs.Symbols.{symbol_of}
use Rattle.tow_parse.specs.declared.goal.Goal.TheVariants.{Parameters}
use Rattle.tow_parse.specs.declared.phase.Place.TheVariants as places
use Rattle.tow_parse.specs.Phased.{PhaseTakes, role_goals, role_told, call_with}
use Rattle.tow_parse.proofs.CallMoves.{phase_stops}
use Rattle.tow_parse.proofs.Transport.{taken, told_none}
use Rattle.tow_parse.proofs.state.State.take_parameters.Goals as goal

pub returns-in_err-phase-clause-err : goal.returns-in_err-phase-clause-err
returns-in_err-phase-clause-err c =
    let p = err_from_is_err_and c.from_residual.result c.from_residual.ensures.1 in
    rw (p.1, p.2) (phase_stops c.args.heading c.args.phase c.args.self.now.goals c.args.self.now (symbol_of c.args.text.now c.args.token) c.in_err-phase.field-0.0 c.in_err-phase.ensures.err)

pub returns-in_ok-want-in-At-clause-ok : goal.returns-in_ok-want-in-At-clause-ok
returns-in_ok-want-in-At-clause-ok c =
    let p : PhaseTakes c.args.heading.square c.args.phase (symbol_of c.args.text.now c.args.token) (places.At c.in-At.phase) = subst (λ k. PhaseTakes c.args.heading.square c.args.phase (symbol_of c.args.text.now c.args.token) k) c.in-At.is c.in_ok-phase.ensures.ok in
    taken (Parameters c.args.heading c.args.phase ∷ c.args.self.now.goals) (Parameters c.args.heading c.in-At.phase ∷ c.args.self.now.goals) c.args.self.now.free [] c.args.self.now c.want.new.self
    c.in_ok-want-in-At.ensures.free (told_none c.args.self.now c.want.new.self c.in_ok-want-in-At.ensures.parts) c.in_ok-want-in-At.ensures.goals (symbol_of c.args.text.now c.args.token)
    (p c.args.heading refl c.args.self.now.goals c.args.self.now.free c.args.self.now.free c.requires.shaped)

pub returns-in_ok-end_call-in-Over-clause-ok : goal.returns-in_ok-end_call-in-Over-clause-ok
returns-in_ok-end_call-in-Over-clause-ok c =
    let p : PhaseTakes c.args.heading.square c.args.phase (symbol_of c.args.text.now c.args.token) (places.Over c.in-Over.parameters) = subst (λ k. PhaseTakes c.args.heading.square c.args.phase (symbol_of c.args.text.now c.args.token) k) c.in-Over.is c.in_ok-phase.ensures.ok in
    taken (Parameters c.args.heading c.args.phase ∷ c.args.self.now.goals) (role_goals c.args.heading.role (call_with c.args.heading c.in-Over.parameters) c.args.self.now.goals) false (role_told c.args.heading.role (call_with c.args.heading c.in-Over.parameters)) c.args.self.now c.end_call.new.self
    c.in_ok-end_call-in-Over.ensures.free c.in_ok-end_call-in-Over.ensures.told c.in_ok-end_call-in-Over.ensures.goals (symbol_of c.args.text.now c.args.token)
    (p c.args.heading refl c.args.self.now.goals c.args.self.now.free c.requires.shaped)
