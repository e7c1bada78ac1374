use Rattle.std.proofs.Common.{rules, sym, ◌∙◌, ap, subst, ◌≡◌, false, [], ◌∷◌, ◌++◌}
use Rattle.tow_parse.specs.declared.goal.Goal.TheVariants.{Else, Told}
use Rattle.tow_parse.specs.declared.part.Part.TheVariants as parts
use Rattle.tow_parse.specs.Follows.{told_part}
use Rattle.tow_parse.specs.Looks.{waits_else}
use Rattle.tow_parse.specs.Moves.{Passes, told}
use Rattle.tow_parse.specs.Parts.{a_when}
use Rattle.tow_parse.specs.Shape.{Shaped}
use Rattle.tow_parse.proofs.PassMoves.{told_passed, else_passed}
use Rattle.tow_parse.proofs.Transport.{passed, told_one, passes_same}
use Rattle.tow_parse.proofs.state.State.pass.Goals as goal

pub returns-then-opens-clause-some : goal.returns-then-opens-clause-some
returns-then-opens-clause-some c =
    subst (λ k. Passes (c.args.goal ∷ c.args.self.now.goals) c.args.self.now c.args.look (k ∷ c.args.self.now.goals) c.args.self.now) c.in-Named.is (passes_same (c.args.goal ∷ c.args.self.now.goals) c.args.self.now c.args.look c.requires.shaped)

pub returns-then-waits_else-clause-some : goal.returns-then-waits_else-clause-some
returns-then-waits_else-clause-some c =
    subst (λ k. Passes (c.args.goal ∷ c.args.self.now.goals) c.args.self.now c.args.look (k ∷ c.args.self.now.goals) c.args.self.now) c.in-Else.is (passes_same (c.args.goal ∷ c.args.self.now.goals) c.args.self.now c.args.look c.requires.shaped)

pub returns-in_ok-tell-in-Told-clause-none : goal.returns-in_ok-tell-in-Told-clause-none
returns-in_ok-tell-in-Told-clause-none c =
    let shaped = subst (λ k. Shaped (k ∷ c.args.self.now.goals)) c.in-Told.is c.requires.shaped in
    let parts : told c.tell.new.self ≡ told c.args.self.now ++ told_part c.in-Told.joint ∷ [] = told_one c.args.self.now c.tell.new.self c.part_of.result c.in_ok-tell-in-Told.ensures.parts ∙ ap (λ k. told c.args.self.now ++ k ∷ []) c.part_of.ensures in
    let p = passed (Told c.in-Told.joint ∷ c.args.self.now.goals) c.args.self.now.goals c.args.self.now.free (told_part c.in-Told.joint ∷ []) c.args.self.now c.tell.new.self c.in_ok-tell-in-Told.ensures.free parts c.args.look
    (told_passed c.args.self.now.goals c.args.self.now.free c.args.look c.in-Told.joint shaped) in
    subst (λ k. Passes (k ∷ c.args.self.now.goals) c.args.self.now c.args.look c.tell.new.self.goals c.tell.new.self) (sym c.in-Told.is)
    (subst (λ k. Passes (Told c.in-Told.joint ∷ c.args.self.now.goals) c.args.self.now c.args.look k c.tell.new.self) (sym c.in_ok-tell-in-Told.ensures.goals) p)

pub returns-in_ok-tell-in-Else-clause-none : goal.returns-in_ok-tell-in-Else-clause-none
returns-in_ok-tell-in-Else-clause-none c =
    let off : waits_else c.args.look ≡ false = search rules in
    let shaped = subst (λ k. Shaped (k ∷ c.args.self.now.goals)) c.in-Else.is c.requires.shaped in
    let p = passed (Else c.in-Else.levels ∷ c.args.self.now.goals) c.args.self.now.goals c.args.self.now.free (a_when ∷ []) c.args.self.now c.tell-in-Else.new.self c.in_ok-tell-in-Else.ensures.free (told_one c.args.self.now c.tell-in-Else.new.self parts.When c.in_ok-tell-in-Else.ensures.parts) c.args.look
    (else_passed c.args.self.now.goals c.args.self.now.free c.args.look c.in-Else.levels off shaped) in
    subst (λ k. Passes (k ∷ c.args.self.now.goals) c.args.self.now c.args.look c.tell-in-Else.new.self.goals c.tell-in-Else.new.self) (sym c.in-Else.is)
    (subst (λ k. Passes (Else c.in-Else.levels ∷ c.args.self.now.goals) c.args.self.now c.args.look k c.tell-in-Else.new.self) (sym c.in_ok-tell-in-Else.ensures.goals) p)
