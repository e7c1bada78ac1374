use Rattle.std.proofs.Common.{rules, refl, sym, ◌∙◌, ap, subst, ◌≡◌, true, false, [], ◌∷◌}
use Rattle.tow_language.specs.Symbols.{symbol_of}
use Rattle.tow_parse.specs.declared.goal.Goal.TheVariants.{Statements, Statement, Told}
use Rattle.tow_parse.specs.declared.goal.Joint.TheVariants as joints
use Rattle.tow_parse.specs.declared.look.Look.TheVariants as looks
use Rattle.tow_parse.specs.declared.part.Part.TheVariants as parts
use Rattle.tow_parse.specs.Looks.{Shows}
use Rattle.tow_parse.specs.Moves.{Passes}
use Rattle.tow_parse.specs.Parts.{a_close}
use Rattle.tow_parse.proofs.ListMoves.{not_after, separator_either, statements_separator, statements_begun, closed_taken, closed_refused}
use Rattle.tow_parse.proofs.Transport.{taken, passed, told_none, told_one, passes_takes, passes_stops, ok_then, err_then}
use Rattle.tow_parse.proofs.state.State.take_statements.Goals as goal

pub returns-then-not-nested-clause-err : goal.returns-then-not-nested-clause-err
returns-then-not-nested-clause-err c =
    let s = subst (λ k. Shows k (symbol_of c.args.text.now c.args.token).sign) c.in-CloseBrace.is c.requires.shows in
    let off : c.args.nested ≡ false = search rules in
    (refl, closed_refused c.args.levels c.args.nested c.args.self.now.goals c.args.self.now.free (symbol_of c.args.text.now c.args.token) s off)

pub returns-in_ok-want-in-Newline-clause-ok : goal.returns-in_ok-want-in-Newline-clause-ok
returns-in_ok-want-in-Newline-clause-ok c =
    taken (Statements c.args.levels c.args.nested ∷ c.args.self.now.goals) (Statements c.args.levels c.args.nested ∷ c.args.self.now.goals) true [] c.args.self.now (record { goals = c.want.new.self.goals; free = true; parts = c.want.new.self.parts; alloc = c.want.new.self.alloc })
    (refl) (told_none c.args.self.now (record { goals = c.want.new.self.goals; free = true; parts = c.want.new.self.parts; alloc = c.want.new.self.alloc }) c.in_ok-want-in-Newline.ensures.parts)
    (c.in_ok-want-in-Newline.ensures.goals) (symbol_of c.args.text.now c.args.token)
    (statements_separator c.args.levels c.args.nested c.args.self.now.goals c.args.self.now.free (symbol_of c.args.text.now c.args.token) (separator_either c.args.look (symbol_of c.args.text.now c.args.token) c.requires.shows c.in-Newline.is) c.requires.shaped)

pub returns-in_ok-tell-in-CloseBrace-clause-ok : goal.returns-in_ok-tell-in-CloseBrace-clause-ok
returns-in_ok-tell-in-CloseBrace-clause-ok c =
    let s = subst (λ k. Shows k (symbol_of c.args.text.now c.args.token).sign) c.in-CloseBrace.is c.requires.shows in
    let on : c.args.nested ≡ true = search rules in
    taken (Statements c.args.levels c.args.nested ∷ c.args.self.now.goals) (c.args.self.now.goals) true (a_close ∷ []) c.args.self.now (record { goals = c.tell.new.self.goals; free = true; parts = c.tell.new.self.parts; alloc = c.tell.new.self.alloc })
    (refl) (told_one c.args.self.now (record { goals = c.tell.new.self.goals; free = true; parts = c.tell.new.self.parts; alloc = c.tell.new.self.alloc }) parts.Close c.in_ok-tell-in-CloseBrace.ensures.parts)
    (c.in_ok-tell-in-CloseBrace.ensures.goals) (symbol_of c.args.text.now c.args.token)
    (closed_taken c.args.levels c.args.nested c.args.self.now.goals c.args.self.now.free (symbol_of c.args.text.now c.args.token) s on c.requires.shaped)

pub returns-in_ok-want-in_default-2 : goal.returns-in_ok-want-in_default-2
returns-in_ok-want-in_default-2 c =
    let off = not_after c.args.look c.in_default.not-Newline c.in_default.not-Semi c.in_default.not-CloseBrace in
    let on : c.args.self.now.free ≡ true = search rules in
    let seen = λ (e : c.args.look ≡ looks.End). subst (λ k. Shows k (symbol_of c.args.text.now c.args.token).sign) e c.requires.shows in
    let goals : c.want-in_default-2.new.self.goals ≡ Told joints.End ∷ Statements c.args.levels c.args.nested ∷ c.args.self.now.goals = (c.in_ok-want-in_default-2.ensures.goals ∙ ap (λ k. Told joints.End ∷ k) c.in_ok-want-in_default.ensures.goals) in
    let p = passed (Statements c.args.levels c.args.nested ∷ c.args.self.now.goals) (Statement c.args.levels false ∷ Told joints.End ∷ Statements c.args.levels c.args.nested ∷ c.args.self.now.goals) c.args.self.now.free [] c.args.self.now c.want-in_default-2.new.self (c.in_ok-want-in_default-2.ensures.free ∙ c.in_ok-want-in_default.ensures.free) (told_none c.args.self.now c.want-in_default-2.new.self (c.in_ok-want-in_default-2.ensures.parts ∙ c.in_ok-want-in_default.ensures.parts)) c.args.look (statements_begun c.args.levels c.args.nested c.args.self.now.goals c.args.self.now.free c.args.look off seen on c.requires.shaped) in
    let q = subst (λ k. Passes (Statements c.args.levels c.args.nested ∷ c.args.self.now.goals) c.args.self.now c.args.look (Statement c.args.levels false ∷ k) c.want-in_default-2.new.self) (sym goals) p in
    record {
      ok = ok_then c.take_statement.result _ _ (passes_takes (Statements c.args.levels c.args.nested ∷ c.args.self.now.goals) (Statement c.args.levels false ∷ c.want-in_default-2.new.self.goals) c.args.self.now c.want-in_default-2.new.self c.args.look q (symbol_of c.args.text.now c.args.token) c.requires.shows c.take_statement.new.self) c.take_statement.ensures.ok;
      err = err_then c.take_statement.result _ _ (passes_stops (Statements c.args.levels c.args.nested ∷ c.args.self.now.goals) (Statement c.args.levels false ∷ c.want-in_default-2.new.self.goals) c.args.self.now c.want-in_default-2.new.self c.args.look q (symbol_of c.args.text.now c.args.token) c.requires.shows) c.take_statement.ensures.err;
    }
