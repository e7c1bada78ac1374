use Rattle.std.proofs.Common.{refl, ◌∙◌, ap, subst, arith, ◌<◌, ◌-◌, true, false, [], ◌∷◌}
use Rattle.tow_language.specs.Symbols.{symbol_of}
use Rattle.tow_parse.specs.declared.goal.Goal.TheVariants.{Statements, Target, Named}
use Rattle.tow_parse.specs.declared.goal.Role.TheVariants.{Handler}
use Rattle.tow_parse.specs.declared.part.Part.TheVariants as parts
use Rattle.tow_parse.specs.Looks.{Shows}
use Rattle.tow_parse.specs.Parts.{a_restart, a_done, an_open}
use Rattle.tow_parse.proofs.TargetMoves.{name_reserved, target_name, target_restart, target_done, target_block, target_deep}
use Rattle.tow_parse.proofs.Transport.{taken, told_none, told_one}
use Rattle.tow_parse.proofs.state.State.take_target.Goals as goal

pub returns-then-levels-eq0-clause-err : goal.returns-then-levels-eq0-clause-err
returns-then-levels-eq0-clause-err c =
    let s = subst (λ k. Shows k (symbol_of c.args.text.now c.args.token).sign) c.in-OpenBrace.is c.requires.shows in
    let k = target_deep c.args.levels c.args.self.now.goals c.args.self.now.free (symbol_of c.args.text.now c.args.token) s c.if-levels-eq0.true in
    (refl, k.0, k.1)

pub returns-in_ok-want-in-Name-clause-ok : goal.returns-in_ok-want-in-Name-clause-ok
returns-in_ok-want-in-Name-clause-ok c =
    let s = subst (λ k. Shows k (symbol_of c.args.text.now c.args.token).sign) c.in-Name.is c.requires.shows in
    taken (Target c.args.levels ∷ c.args.self.now.goals) (Named Handler c.in_ok-name-in-Name.name ∷ c.args.self.now.goals) c.args.self.now.free [] c.args.self.now c.want.new.self
    (c.in_ok-want-in-Name.ensures.free) (told_none c.args.self.now c.want.new.self (c.in_ok-want-in-Name.ensures.parts))
    (c.in_ok-want-in-Name.ensures.goals) (symbol_of c.args.text.now c.args.token)
    (target_name c.args.levels c.args.self.now.goals c.args.self.now.free (symbol_of c.args.text.now c.args.token) c.in_ok-name-in-Name.name (name_reserved (symbol_of c.args.text.now c.args.token).sign c.in_ok-name-in-Name.name.bytes s c.in_ok-name-in-Name.ensures.sign) c.in_ok-name-in-Name.ensures.sign c.in_ok-name-in-Name.ensures.place c.args.self.now.free c.requires.shaped)

pub returns-in_ok-tell-in-Restart-clause-ok : goal.returns-in_ok-tell-in-Restart-clause-ok
returns-in_ok-tell-in-Restart-clause-ok c =
    let s = subst (λ k. Shows k (symbol_of c.args.text.now c.args.token).sign) c.in-Restart.is c.requires.shows in
    taken (Target c.args.levels ∷ c.args.self.now.goals) (c.args.self.now.goals) false (a_restart ∷ []) c.args.self.now (record { goals = c.tell.new.self.goals; free = false; parts = c.tell.new.self.parts; alloc = c.tell.new.self.alloc })
    (refl) (told_one c.args.self.now (record { goals = c.tell.new.self.goals; free = false; parts = c.tell.new.self.parts; alloc = c.tell.new.self.alloc }) parts.Restart c.in_ok-tell-in-Restart.ensures.parts)
    (c.in_ok-tell-in-Restart.ensures.goals) (symbol_of c.args.text.now c.args.token)
    (target_restart c.args.levels c.args.self.now.goals c.args.self.now.free (symbol_of c.args.text.now c.args.token) s c.requires.shaped)

pub returns-in_ok-tell-in-Done-clause-ok : goal.returns-in_ok-tell-in-Done-clause-ok
returns-in_ok-tell-in-Done-clause-ok c =
    let s = subst (λ k. Shows k (symbol_of c.args.text.now c.args.token).sign) c.in-Done.is c.requires.shows in
    taken (Target c.args.levels ∷ c.args.self.now.goals) (c.args.self.now.goals) false (a_done ∷ []) c.args.self.now (record { goals = c.tell-in-Done.new.self.goals; free = false; parts = c.tell-in-Done.new.self.parts; alloc = c.tell-in-Done.new.self.alloc })
    (refl) (told_one c.args.self.now (record { goals = c.tell-in-Done.new.self.goals; free = false; parts = c.tell-in-Done.new.self.parts; alloc = c.tell-in-Done.new.self.alloc }) parts.Done c.in_ok-tell-in-Done.ensures.parts)
    (c.in_ok-tell-in-Done.ensures.goals) (symbol_of c.args.text.now c.args.token)
    (target_done c.args.levels c.args.self.now.goals c.args.self.now.free (symbol_of c.args.text.now c.args.token) s c.requires.shaped)

pub returns-in_ok-want-in-OpenBrace-clause-ok : goal.returns-in_ok-want-in-OpenBrace-clause-ok
returns-in_ok-want-in-OpenBrace-clause-ok c =
    let s = subst (λ k. Shows k (symbol_of c.args.text.now c.args.token).sign) c.in-OpenBrace.is c.requires.shows in
    let some : 0 < c.args.levels = omega arith in
    taken (Target c.args.levels ∷ c.args.self.now.goals) (Statements (c.args.levels - 1) true ∷ c.args.self.now.goals) true (an_open ∷ []) c.args.self.now (record { goals = c.want-in-OpenBrace.new.self.goals; free = true; parts = c.want-in-OpenBrace.new.self.parts; alloc = c.want-in-OpenBrace.new.self.alloc })
    (refl) (told_one c.args.self.now (record { goals = c.want-in-OpenBrace.new.self.goals; free = true; parts = c.want-in-OpenBrace.new.self.parts; alloc = c.want-in-OpenBrace.new.self.alloc }) parts.Open (c.in_ok-want-in-OpenBrace.ensures.parts ∙ c.in_ok-tell-in-OpenBrace.ensures.parts))
    (c.in_ok-want-in-OpenBrace.ensures.goals ∙ ap (λ k. Statements (c.args.levels - 1) true ∷ k) c.in_ok-tell-in-OpenBrace.ensures.goals) (symbol_of c.args.text.now c.args.token)
    (target_block c.args.levels c.args.self.now.goals c.args.self.now.free (symbol_of c.args.text.now c.args.token) s some c.requires.shaped)
