use Rattle.std.proofs.Common.{rules, ◌≡◌}
use Rattle.std.proofs.lemmas.Result.{on_err_weaker, on_ok_weaker}
use Rattle.tow_exchange.specs.declared.phase.Phase.TheVariants.{Running}
use Rattle.tow_exchange.specs.declared.place.Place.TheVariants.{InText}
use Rattle.tow_advance.proofs.Passing.{halts, passes, passes_to, takes_on}
use Rattle.tow_advance.proofs.walking.step.Goals as goal

pub returns-in-InText-clause-ok : goal.returns-in-InText-clause-ok
returns-in-InText-clause-ok c =
    let program = c.args.program.now in
    let e = c.args.exchange.now in
    let p = c.pass_failing-to.new.exchange in
    let n = c.pass_failing-to.result in
    let here : e.place ≡ InText c.in-InText.at = search rules in
    let told = c.pass_failing-to.ensures in
    let passed = passes program e c.in-InText.at c.requires.running here n p told.place told.stays told.moves in
    let there = passes_to program e c.in-InText.at c.requires.running here n p told.place told.stays told.moves in
    let runs : p.phase ≡ Running = search rules in
    on_ok_weaker c.take.result (λ is. takes_on program e p c.take.new.exchange n passed runs there is) c.take.ensures.ok

pub returns-in-InText-clause-err : goal.returns-in-InText-clause-err
returns-in-InText-clause-err c =
    let program = c.args.program.now in
    let e = c.args.exchange.now in
    let p = c.pass_failing-to.new.exchange in
    let n = c.pass_failing-to.result in
    let here : e.place ≡ InText c.in-InText.at = search rules in
    let told = c.pass_failing-to.ensures in
    let passed = passes program e c.in-InText.at c.requires.running here n p told.place told.stays told.moves in
    on_err_weaker c.take.result (λ left. halts program e p c.take.new.exchange passed left) c.take.ensures.err
