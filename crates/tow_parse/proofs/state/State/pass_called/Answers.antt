use Rattle.std.proofs.Common.{rules, sym, ◌∙◌, ap, subst, ◌≡◌, true, false, [], ◌∷◌}
use Rattle.tow_parse.specs.declared.goal.Goal.TheVariants.{Joined, Target, Else, Called}
use Rattle.tow_parse.specs.declared.part.Part.TheVariants as parts
use Rattle.tow_fit.specs.Calls.{call_of}
use Rattle.tow_parse.specs.Looks.{joins}
use Rattle.tow_parse.specs.Moves.{Passes}
use Rattle.tow_parse.specs.Parts.{a_test, a_handler}
use Rattle.tow_parse.proofs.PassMoves.{handler_passed, test_passed}
use Rattle.tow_parse.proofs.Transport.{passed, told_one}
use Rattle.tow_parse.proofs.state.State.pass_called.Goals as goal

pub returns-then-not-joins-clause-none : goal.returns-then-not-joins-clause-none
returns-then-not-joins-clause-none c =
    let off : joins c.args.look ≡ false = search rules in
    let p = passed (Called c.args.levels c.args.call ∷ c.args.self.now.goals) c.args.self.now.goals false (a_handler (call_of c.args.call) ∷ []) c.args.self.now c.tell.new.self c.in_ok-tell.ensures.free (told_one c.args.self.now c.tell.new.self (parts.Handler c.args.call) c.in_ok-tell.ensures.parts) c.args.look
    (handler_passed c.args.self.now.goals c.args.self.now.free c.args.look c.args.levels c.args.call off c.requires.shaped) in
    subst (λ k. Passes (Called c.args.levels c.args.call ∷ c.args.self.now.goals) c.args.self.now c.args.look k c.tell.new.self) (sym c.in_ok-tell.ensures.goals) p

pub returns-clause-some : goal.returns-clause-some
returns-clause-some c =
    let on : joins c.args.look ≡ true = search rules in
    let goals : c.want-2.new.self.goals ≡ Target c.args.levels ∷ Else c.args.levels ∷ c.args.self.now.goals = c.in_ok-want-2.ensures.goals ∙ ap (λ k. Target c.args.levels ∷ k) (c.in_ok-want.ensures.goals ∙ ap (λ k. Else c.args.levels ∷ k) c.in_ok-tell-2.ensures.goals) in
    let p = passed (Called c.args.levels c.args.call ∷ c.args.self.now.goals) (Joined c.args.levels false false ∷ Target c.args.levels ∷ Else c.args.levels ∷ c.args.self.now.goals) false (a_test (call_of c.args.call) ∷ []) c.args.self.now c.want-2.new.self (c.in_ok-want-2.ensures.free ∙ c.in_ok-want.ensures.free ∙ c.in_ok-tell-2.ensures.free)
    (told_one c.args.self.now c.want-2.new.self (parts.Test c.args.call) (c.in_ok-want-2.ensures.parts ∙ c.in_ok-want.ensures.parts ∙ c.in_ok-tell-2.ensures.parts)) c.args.look
    (test_passed c.args.self.now.goals c.args.self.now.free c.args.look c.args.levels c.args.call on c.requires.shaped) in
    subst (λ k. Passes (Called c.args.levels c.args.call ∷ c.args.self.now.goals) c.args.self.now c.args.look (Joined c.args.levels false false ∷ k) c.want-2.new.self) (sym goals) p
