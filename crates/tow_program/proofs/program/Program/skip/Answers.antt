use Rattle.std.proofs.Common.{rules, ◌≡◌, ◌-◌, ◌<◌, length, sym, ap, subst, ◌∙◌, arith}
use Rattle.tow_program.specs.declared.run.Hop.TheVariants.{Rests, Goes}
use Rattle.tow_program.specs.Tables.{AreEntered, Leads}
use Rattle.tow_program.proofs.Entering.{looked_up}
use Rattle.tow_program.proofs.program.Program.skip.Goals as goal

pub loop-place-preserved : goal.loop-place-preserved
loop-place-preserved c =
    let program = c.args.self.now in
    let right = subst (λ p. AreEntered p (length p) c.self.inside.table.runs c.self.inside.table.entries.items) c.self.view_is c.self.invariant.2 in
    let leads : Leads program c.args.path.now c.loop-place.at (Goes c.in-Goes.place) =
    subst (Leads program c.args.path.now c.loop-place.at) (sym c.hop.ensures ∙ c.in-Goes.is) (looked_up program _ _ right c.args.path.now c.loop-place.at) in
    sym leads.0 ∙ c.loop-place.invariant

pub loop-place-smaller : goal.loop-place-smaller
loop-place-smaller c =
    let program = c.args.self.now in
    let right = subst (λ p. AreEntered p (length p) c.self.inside.table.runs c.self.inside.table.entries.items) c.self.view_is c.self.invariant.2 in
    let leads : Leads program c.args.path.now c.loop-place.at (Goes c.in-Goes.place) =
    subst (Leads program c.args.path.now c.loop-place.at) (sym c.hop.ensures ∙ c.in-Goes.is) (looked_up program _ _ right c.args.path.now c.loop-place.at) in
    omega (arith, leads.1, leads.2)

pub returns-in-Rests : goal.returns-in-Rests
returns-in-Rests c =
    let program = c.args.self.now in
    let right = subst (λ p. AreEntered p (length p) c.self.inside.table.runs c.self.inside.table.entries.items) c.self.view_is c.self.invariant.2 in
    let leads : Leads program c.args.path.now c.loop-place.at (Rests c.in-Rests.place) =
    subst (Leads program c.args.path.now c.loop-place.at) (sym c.hop.ensures ∙ c.in-Rests.is) (looked_up program _ _ right c.args.path.now c.loop-place.at) in
    sym leads ∙ c.loop-place.invariant
