use Rattle.std.proofs.Common.{rules, refl, sym, ◌∙◌, ap, subst, ◌≡◌, true, false, [], ◌∷◌}
use Rattle.tow_language.specs.Symbols.{symbol_of}
use Rattle.tow_parse.specs.declared.goal.Goal.TheVariants.{Statement, Factor, Joined, Target, Else, Named}
use Rattle.tow_parse.specs.declared.goal.Role.TheVariants.{Front}
use Rattle.tow_parse.specs.Looks.{Shows}
use Rattle.tow_parse.specs.Moves.{Passes}
use Rattle.tow_parse.proofs.StatementMoves.{begins_predicate_of, begins_target_of, statement_predicate, statement_target, statement_arrow, statement_name, statement_no, statement_no_arrow}
use Rattle.tow_parse.proofs.TargetMoves.{name_reserved}
use Rattle.tow_parse.proofs.Transport.{taken, passed, told_none, passes_takes, passes_stops, ok_then, err_then}
use Rattle.tow_parse.proofs.state.State.take_statement.Goals as goal

pub returns-then-not-arrow-clause-err : goal.returns-then-not-arrow-clause-err
returns-then-not-arrow-clause-err c =
    let s = subst (λ k. Shows k (symbol_of c.args.text.now c.args.token).sign) c.in-Arrow.is c.requires.shows in
    let off : c.args.arrow ≡ false = search rules in
    (refl, statement_no_arrow c.args.levels c.args.arrow c.args.self.now.goals c.args.self.now.free off (symbol_of c.args.text.now c.args.token) s)

pub returns-in_ok-want-in-Arrow-clause-ok : goal.returns-in_ok-want-in-Arrow-clause-ok
returns-in_ok-want-in-Arrow-clause-ok c =
    let s = subst (λ k. Shows k (symbol_of c.args.text.now c.args.token).sign) c.in-Arrow.is c.requires.shows in
    let on : c.args.arrow ≡ true = search rules in
    taken (Statement c.args.levels c.args.arrow ∷ c.args.self.now.goals) (Statement c.args.levels false ∷ c.args.self.now.goals) c.args.self.now.free [] c.args.self.now c.want.new.self
    (c.in_ok-want-in-Arrow.ensures.free) (told_none c.args.self.now c.want.new.self (c.in_ok-want-in-Arrow.ensures.parts))
    (c.in_ok-want-in-Arrow.ensures.goals) (symbol_of c.args.text.now c.args.token)
    (statement_arrow c.args.levels c.args.arrow c.args.self.now.goals c.args.self.now.free (symbol_of c.args.text.now c.args.token) s on c.requires.shaped)

pub returns-in_ok-want-in-Name-clause-ok : goal.returns-in_ok-want-in-Name-clause-ok
returns-in_ok-want-in-Name-clause-ok c =
    let s = subst (λ k. Shows k (symbol_of c.args.text.now c.args.token).sign) c.in-Name.is c.requires.shows in
    taken (Statement c.args.levels c.args.arrow ∷ c.args.self.now.goals) (Named (Front c.args.levels) c.in_ok-name-in-Name.name ∷ c.args.self.now.goals) c.args.self.now.free [] c.args.self.now c.want-in-Name.new.self
    (c.in_ok-want-in-Name.ensures.free) (told_none c.args.self.now c.want-in-Name.new.self (c.in_ok-want-in-Name.ensures.parts))
    (c.in_ok-want-in-Name.ensures.goals) (symbol_of c.args.text.now c.args.token)
    (statement_name c.args.levels c.args.arrow c.args.self.now.goals c.args.self.now.free (symbol_of c.args.text.now c.args.token) c.in_ok-name-in-Name.name (name_reserved (symbol_of c.args.text.now c.args.token).sign c.in_ok-name-in-Name.name.bytes s c.in_ok-name-in-Name.ensures.sign) c.in_ok-name-in-Name.ensures.sign c.in_ok-name-in-Name.ensures.place c.requires.shaped)

pub returns-in_ok-want-in-Not-3-clause-ok : goal.returns-in_ok-want-in-Not-3-clause-ok
returns-in_ok-want-in-Not-3-clause-ok c =
    let on = begins_predicate_of c.args.look c.in-Not.is in
    let goals : c.want-in-Not-3.new.self.goals ≡ Joined c.args.levels false false ∷ Target c.args.levels ∷ Else c.args.levels ∷ c.args.self.now.goals = (c.in_ok-want-in-Not-3.ensures.goals ∙ ap (λ k. Joined c.args.levels false false ∷ k) (c.in_ok-want-in-Not-2.ensures.goals ∙ ap (λ k. Target c.args.levels ∷ k) c.in_ok-want-in-Not.ensures.goals)) in
    let p = passed (Statement c.args.levels c.args.arrow ∷ c.args.self.now.goals) (Factor c.args.levels ∷ Joined c.args.levels false false ∷ Target c.args.levels ∷ Else c.args.levels ∷ c.args.self.now.goals) c.args.self.now.free [] c.args.self.now c.want-in-Not-3.new.self (c.in_ok-want-in-Not-3.ensures.free ∙ c.in_ok-want-in-Not-2.ensures.free ∙ c.in_ok-want-in-Not.ensures.free) (told_none c.args.self.now c.want-in-Not-3.new.self (c.in_ok-want-in-Not-3.ensures.parts ∙ c.in_ok-want-in-Not-2.ensures.parts ∙ c.in_ok-want-in-Not.ensures.parts)) c.args.look (statement_predicate c.args.levels c.args.arrow c.args.self.now.goals c.args.self.now.free c.args.look on c.requires.shaped) in
    let q = subst (λ k. Passes (Statement c.args.levels c.args.arrow ∷ c.args.self.now.goals) c.args.self.now c.args.look (Factor c.args.levels ∷ k) c.want-in-Not-3.new.self) (sym goals) p in
    ok_then c.take_factor.result _ _ (passes_takes (Statement c.args.levels c.args.arrow ∷ c.args.self.now.goals) (Factor c.args.levels ∷ c.want-in-Not-3.new.self.goals) c.args.self.now c.want-in-Not-3.new.self c.args.look q (symbol_of c.args.text.now c.args.token) c.requires.shows c.take_factor.new.self) c.take_factor.ensures.ok

pub returns-in_ok-want-in-Not-3-clause-err : goal.returns-in_ok-want-in-Not-3-clause-err
returns-in_ok-want-in-Not-3-clause-err c =
    let on = begins_predicate_of c.args.look c.in-Not.is in
    let goals : c.want-in-Not-3.new.self.goals ≡ Joined c.args.levels false false ∷ Target c.args.levels ∷ Else c.args.levels ∷ c.args.self.now.goals = (c.in_ok-want-in-Not-3.ensures.goals ∙ ap (λ k. Joined c.args.levels false false ∷ k) (c.in_ok-want-in-Not-2.ensures.goals ∙ ap (λ k. Target c.args.levels ∷ k) c.in_ok-want-in-Not.ensures.goals)) in
    let p = passed (Statement c.args.levels c.args.arrow ∷ c.args.self.now.goals) (Factor c.args.levels ∷ Joined c.args.levels false false ∷ Target c.args.levels ∷ Else c.args.levels ∷ c.args.self.now.goals) c.args.self.now.free [] c.args.self.now c.want-in-Not-3.new.self (c.in_ok-want-in-Not-3.ensures.free ∙ c.in_ok-want-in-Not-2.ensures.free ∙ c.in_ok-want-in-Not.ensures.free) (told_none c.args.self.now c.want-in-Not-3.new.self (c.in_ok-want-in-Not-3.ensures.parts ∙ c.in_ok-want-in-Not-2.ensures.parts ∙ c.in_ok-want-in-Not.ensures.parts)) c.args.look (statement_predicate c.args.levels c.args.arrow c.args.self.now.goals c.args.self.now.free c.args.look on c.requires.shaped) in
    let q = subst (λ k. Passes (Statement c.args.levels c.args.arrow ∷ c.args.self.now.goals) c.args.self.now c.args.look (Factor c.args.levels ∷ k) c.want-in-Not-3.new.self) (sym goals) p in
    err_then c.take_factor.result _ _ (passes_stops (Statement c.args.levels c.args.arrow ∷ c.args.self.now.goals) (Factor c.args.levels ∷ c.want-in-Not-3.new.self.goals) c.args.self.now c.want-in-Not-3.new.self c.args.look q (symbol_of c.args.text.now c.args.token) c.requires.shows) c.take_factor.ensures.err

pub returns-in-Restart-clause-ok : goal.returns-in-Restart-clause-ok
returns-in-Restart-clause-ok c =
    let on = begins_target_of c.args.look c.in-Restart.is in
    let q = passed (Statement c.args.levels c.args.arrow ∷ c.args.self.now.goals) (Target c.args.levels ∷ c.args.self.now.goals) c.args.self.now.free [] c.args.self.now c.args.self.now refl (told_none c.args.self.now c.args.self.now refl) c.args.look (statement_target c.args.levels c.args.arrow c.args.self.now.goals c.args.self.now.free c.args.look on c.requires.shaped) in
    ok_then c.take_target.result _ _ (passes_takes (Statement c.args.levels c.args.arrow ∷ c.args.self.now.goals) (Target c.args.levels ∷ c.args.self.now.goals) c.args.self.now c.args.self.now c.args.look q (symbol_of c.args.text.now c.args.token) c.requires.shows c.take_target.new.self) c.take_target.ensures.ok

pub returns-in-Restart-clause-err : goal.returns-in-Restart-clause-err
returns-in-Restart-clause-err c =
    let on = begins_target_of c.args.look c.in-Restart.is in
    let q = passed (Statement c.args.levels c.args.arrow ∷ c.args.self.now.goals) (Target c.args.levels ∷ c.args.self.now.goals) c.args.self.now.free [] c.args.self.now c.args.self.now refl (told_none c.args.self.now c.args.self.now refl) c.args.look (statement_target c.args.levels c.args.arrow c.args.self.now.goals c.args.self.now.free c.args.look on c.requires.shaped) in
    err_then c.take_target.result _ _ (passes_stops (Statement c.args.levels c.args.arrow ∷ c.args.self.now.goals) (Target c.args.levels ∷ c.args.self.now.goals) c.args.self.now c.args.self.now c.args.look q (symbol_of c.args.text.now c.args.token) c.requires.shows) c.take_target.ensures.err

pub returns-in_default : goal.returns-in_default
returns-in_default c =
    record { ok = tt; err = (refl, statement_no c.args.levels c.args.arrow c.args.self.now.goals c.args.self.now.free c.args.look (symbol_of c.args.text.now c.args.token) c.requires.shows c.in_default.not-Arrow c.in_default.not-Name c.in_default.not-Not c.in_default.not-OpenRound c.in_default.not-Restart c.in_default.not-Done c.in_default.not-OpenBrace) }
