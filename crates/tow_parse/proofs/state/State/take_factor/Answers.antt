use Rattle.std.proofs.Common.{refl, ◌∙◌, ap, subst, arith, ◌<◌, ◌-◌, true, false, [], ◌∷◌}
use Rattle.tow_language.specs.Symbols.{symbol_of}
use Rattle.tow_parse.specs.declared.goal.Goal.TheVariants.{Factor, Joined, Told, Named}
use Rattle.tow_parse.specs.declared.goal.Joint.TheVariants as joints
use Rattle.tow_parse.specs.declared.goal.Role.TheVariants.{Test}
use Rattle.tow_parse.specs.Looks.{Shows}
use Rattle.tow_parse.proofs.PredicateMoves.{factor_not, factor_group, factor_name, factor_no, factor_not_deep, factor_group_deep}
use Rattle.tow_parse.proofs.TargetMoves.{name_reserved}
use Rattle.tow_parse.proofs.Transport.{taken, told_none}
use Rattle.tow_parse.proofs.state.State.take_factor.Goals as goal

pub returns-in-Not-clause-err : goal.returns-in-Not-clause-err
returns-in-Not-clause-err c =
    let s = subst (λ k. Shows k (symbol_of c.args.text.now c.args.token).sign) c.in-Not.is c.requires.shows in
    let k = factor_not_deep c.args.levels c.args.self.now.goals c.args.self.now.free (symbol_of c.args.text.now c.args.token) c.if-levels-eq0.true s in
    (refl, k.0, k.1)

pub returns-in_ok-want-in-Not-2-2-clause-ok : goal.returns-in_ok-want-in-Not-2-2-clause-ok
returns-in_ok-want-in-Not-2-2-clause-ok c =
    let s = subst (λ k. Shows k (symbol_of c.args.text.now c.args.token).sign) c.in-Not-2.is c.requires.shows in
    let some : 0 < c.args.levels = omega arith in
    taken (Factor c.args.levels ∷ c.args.self.now.goals) (Factor (c.args.levels - 1) ∷ Told joints.Not ∷ c.args.self.now.goals) c.args.self.now.free [] c.args.self.now c.want-in-Not-2.new.self
    (c.in_ok-want-in-Not-2-2.ensures.free ∙ c.in_ok-want-in-Not-2.ensures.free) (told_none c.args.self.now c.want-in-Not-2.new.self (c.in_ok-want-in-Not-2-2.ensures.parts ∙ c.in_ok-want-in-Not-2.ensures.parts))
    ((c.in_ok-want-in-Not-2-2.ensures.goals ∙ ap (λ k. Factor (c.args.levels - 1) ∷ k) c.in_ok-want-in-Not-2.ensures.goals)) (symbol_of c.args.text.now c.args.token)
    (factor_not c.args.levels c.args.self.now.goals c.args.self.now.free (symbol_of c.args.text.now c.args.token) c.args.self.now.free some s c.requires.shaped)

pub returns-in-OpenRound-clause-err : goal.returns-in-OpenRound-clause-err
returns-in-OpenRound-clause-err c =
    let s = subst (λ k. Shows k (symbol_of c.args.text.now c.args.token).sign) c.in-OpenRound.is c.requires.shows in
    let k = factor_group_deep c.args.levels c.args.self.now.goals c.args.self.now.free (symbol_of c.args.text.now c.args.token) c.if-levels-eq0-2.true s in
    (refl, k.0, k.1)

pub returns-in_ok-want-in-OpenRound-2-2-clause-ok : goal.returns-in_ok-want-in-OpenRound-2-2-clause-ok
returns-in_ok-want-in-OpenRound-2-2-clause-ok c =
    let s = subst (λ k. Shows k (symbol_of c.args.text.now c.args.token).sign) c.in-OpenRound-2.is c.requires.shows in
    let some : 0 < c.args.levels = omega arith in
    taken (Factor c.args.levels ∷ c.args.self.now.goals) (Factor (c.args.levels - 1) ∷ Joined (c.args.levels - 1) false true ∷ c.args.self.now.goals) c.args.self.now.free [] c.args.self.now c.want-in-OpenRound-2-2.new.self
    (c.in_ok-want-in-OpenRound-2-2.ensures.free ∙ c.in_ok-want-in-OpenRound-2.ensures.free) (told_none c.args.self.now c.want-in-OpenRound-2-2.new.self (c.in_ok-want-in-OpenRound-2-2.ensures.parts ∙ c.in_ok-want-in-OpenRound-2.ensures.parts))
    ((c.in_ok-want-in-OpenRound-2-2.ensures.goals ∙ ap (λ k. Factor (c.args.levels - 1) ∷ k) c.in_ok-want-in-OpenRound-2.ensures.goals)) (symbol_of c.args.text.now c.args.token)
    (factor_group c.args.levels c.args.self.now.goals c.args.self.now.free (symbol_of c.args.text.now c.args.token) c.args.self.now.free some s c.requires.shaped)

pub returns-in_ok-want-in-Name-clause-ok : goal.returns-in_ok-want-in-Name-clause-ok
returns-in_ok-want-in-Name-clause-ok c =
    let s = subst (λ k. Shows k (symbol_of c.args.text.now c.args.token).sign) c.in-Name.is c.requires.shows in
    taken (Factor c.args.levels ∷ c.args.self.now.goals) (Named Test c.in_ok-name-in-Name.name ∷ c.args.self.now.goals) c.args.self.now.free [] c.args.self.now c.want-in-Name.new.self
    (c.in_ok-want-in-Name.ensures.free) (told_none c.args.self.now c.want-in-Name.new.self (c.in_ok-want-in-Name.ensures.parts))
    (c.in_ok-want-in-Name.ensures.goals) (symbol_of c.args.text.now c.args.token)
    (factor_name c.args.levels c.args.self.now.goals c.args.self.now.free (symbol_of c.args.text.now c.args.token) c.args.self.now.free c.in_ok-name-in-Name.name (name_reserved (symbol_of c.args.text.now c.args.token).sign c.in_ok-name-in-Name.name.bytes s c.in_ok-name-in-Name.ensures.sign) c.in_ok-name-in-Name.ensures.sign c.in_ok-name-in-Name.ensures.place c.requires.shaped)

pub returns-in_default : goal.returns-in_default
returns-in_default c =
    record { ok = tt; err = (refl, factor_no c.args.levels c.args.self.now.goals c.args.self.now.free (symbol_of c.args.text.now c.args.token) c.args.look c.in_default.not-Not c.in_default.not-Name c.in_default.not-OpenRound c.requires.shows) }
