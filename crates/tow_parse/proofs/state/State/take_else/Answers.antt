use Rattle.std.proofs.Common.{refl, ◌∙◌, ap, subst, arith, ◌<◌, ◌-◌, true, [], ◌∷◌}
use Rattle.tow_language.specs.Symbols.{symbol_of}
use Rattle.tow_parse.specs.declared.goal.Goal.TheVariants.{Statement, Else, Told}
use Rattle.tow_parse.specs.declared.goal.Joint.TheVariants as joints
use Rattle.tow_parse.specs.Looks.{Shows}
use Rattle.tow_parse.proofs.ListMoves.{else_separator, else_begun, else_deep, separator_of}
use Rattle.tow_parse.proofs.Transport.{taken, told_none}
use Rattle.tow_parse.proofs.state.State.take_else.Goals as goal

pub returns-then-levels-eq0-clause-err : goal.returns-then-levels-eq0-clause-err
returns-then-levels-eq0-clause-err c =
    let s = subst (λ k. Shows k (symbol_of c.args.text.now c.args.token).sign) c.in-Else.is c.requires.shows in
    let k = else_deep c.args.levels c.args.self.now.goals c.args.self.now.free (symbol_of c.args.text.now c.args.token) s c.requires.shaped c.if-levels-eq0.true in
    (refl, k.0, k.1)

pub returns-in_ok-want-in-Else-2-clause-ok : goal.returns-in_ok-want-in-Else-2-clause-ok
returns-in_ok-want-in-Else-2-clause-ok c =
    let s = subst (λ k. Shows k (symbol_of c.args.text.now c.args.token).sign) c.in-Else.is c.requires.shows in
    let some : 0 < c.args.levels = omega arith in
    taken (Else c.args.levels ∷ c.args.self.now.goals) (Statement (c.args.levels - 1) true ∷ Told joints.WhenElse ∷ c.args.self.now.goals) c.args.self.now.free [] c.args.self.now c.want-in-Else.new.self
    (c.in_ok-want-in-Else-2.ensures.free ∙ c.in_ok-want-in-Else.ensures.free) (told_none c.args.self.now c.want-in-Else.new.self (c.in_ok-want-in-Else-2.ensures.parts ∙ c.in_ok-want-in-Else.ensures.parts))
    ((c.in_ok-want-in-Else-2.ensures.goals ∙ ap (λ k. Statement (c.args.levels - 1) true ∷ k) c.in_ok-want-in-Else.ensures.goals)) (symbol_of c.args.text.now c.args.token)
    (else_begun c.args.levels c.args.self.now.goals c.args.self.now.free (symbol_of c.args.text.now c.args.token) s c.requires.shaped some)

pub returns-in_ok-want-in_default : goal.returns-in_ok-want-in_default
returns-in_ok-want-in_default c =
    record {
      ok = taken (Else c.args.levels ∷ c.args.self.now.goals) (Else c.args.levels ∷ c.args.self.now.goals) true [] c.args.self.now (record { goals = c.want-in_default.new.self.goals; free = true; parts = c.want-in_default.new.self.parts; alloc = c.want-in_default.new.self.alloc })
          (refl) (told_none c.args.self.now (record { goals = c.want-in_default.new.self.goals; free = true; parts = c.want-in_default.new.self.parts; alloc = c.want-in_default.new.self.alloc }) c.in_ok-want-in_default.ensures.parts)
          (c.in_ok-want-in_default.ensures.goals) (symbol_of c.args.text.now c.args.token)
          (else_separator c.args.levels c.args.self.now.goals c.args.self.now.free (symbol_of c.args.text.now c.args.token) (separator_of c.args.look (symbol_of c.args.text.now c.args.token) c.requires.shows c.requires.waits c.in_default.not-Else) c.requires.shaped);
      err = tt;
    }
