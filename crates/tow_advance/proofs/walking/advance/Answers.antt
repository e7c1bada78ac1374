use Rattle.std.proofs.Common.{rules, ◌≡◌, refl, sym, ap, ◌∙◌, arith}
use Rattle.tow_exchange.specs.declared.phase.Phase.TheVariants.{Running, Stopped}
use Rattle.tow_advance.specs.declared.next.Next.TheVariants as next
use Rattle.tow_advance.specs.Moves.{Halted, Stepped}
use Rattle.tow_advance.specs.Needs.{is_for_worker, for_role, first_need}
use Rattle.tow_exchange.specs.Exchanges.{ExchangeData}
use Rattle.tow_advance.specs.Under.{plan_in}
use Rattle.tow_advance.proofs.Dispatched.{handing, not_stopped, stays_by_step}
use Rattle.tow_advance.proofs.Adding.{adds_further, same_is_none}
use Rattle.tow_advance.proofs.walking.advance.Goals as goal

pub returns-then-not-is_running-clause-need : goal.returns-then-not-is_running-clause-need
returns-then-not-is_running-clause-need c =
    let live : c.args.exchange.now.phase ≡ Stopped → ⊥ = search rules in
    λ known. c.need.ensures.need known c.args.program.now
    ∙ ap (first_need c.args.role) c.loop-exchange.invariant.0
    ∙ sym (not_stopped c.args.exchange.now.phase c.args.role (plan_in c.args.program.now c.args.exchange.now) live)

pub returns-then-hands_on-clause-need : goal.returns-then-hands_on-clause-need
returns-then-hands_on-clause-need c =
    let live : c.args.exchange.now.phase ≡ Stopped → ⊥ = search rules in
    let runs : c.loop-exchange.exchange.phase ≡ Running = search rules in
    let hands : for_role c.args.role (is_for_worker c.loop-exchange.exchange.stand.mark) next.Stop ≡ next.NeedWorker = search rules in
    λ known. sym (not_stopped c.args.exchange.now.phase c.args.role (plan_in c.args.program.now c.args.exchange.now) live
    ∙ ap (first_need c.args.role) (sym c.loop-exchange.invariant.0)
    ∙ handing c.args.program.now c.loop-exchange.exchange c.args.role runs hands)

pub returns-in-Err-clause-stays : goal.returns-in-Err-clause-stays
returns-in-Err-clause-stays c =
    let goes : for_role c.args.role (is_for_worker c.loop-exchange.exchange.stand.mark) next.Stop ≡ next.NeedWorker → ⊥ = search rules in
    let e = c.loop-exchange.exchange in
    let halted : Halted c.args.program.now e c.step.new.exchange = search rules in
    stays_by_step c.args.role c.args.exchange.now.stand.mark c.args.exchange.now e c.step.new.exchange refl goes
    halted.unworked c.loop-exchange.invariant.6

pub returns-in-Err-clause-no_memory : goal.returns-in-Err-clause-no_memory
returns-in-Err-clause-no_memory c =
    let halted : Halted c.args.program.now c.loop-exchange.exchange c.step.new.exchange = search rules in
    λ short. (halted.way.0, halted.way.1 ∙ c.loop-exchange.invariant.0, halted.way.2)

pub returns-in-Err-clause-open : goal.returns-in-Err-clause-open
returns-in-Err-clause-open c =
    let halted : Halted c.args.program.now c.loop-exchange.exchange c.step.new.exchange = search rules in
    let runs : c.loop-exchange.exchange.phase ≡ Running = search rules in
    λ short ended. (let wrong : Running ≡ Stopped = sym (halted.phase ∙ runs) ∙ ended in absurd cc)

pub returns-in-Err-clause-adds : goal.returns-in-Err-clause-adds
returns-in-Err-clause-adds c =
    let halted : Halted c.args.program.now c.loop-exchange.exchange c.step.new.exchange = search rules in
    let added = c.loop-exchange.invariant.7 in
    (added.0, halted.listeners ∙ added.1)

pub returns-in-Err-clause-unchosen : goal.returns-in-Err-clause-unchosen
returns-in-Err-clause-unchosen c =
    let halted : Halted c.args.program.now c.loop-exchange.exchange c.step.new.exchange = search rules in
    λ first live. halted.choice ∙ c.loop-exchange.invariant.8 first (λ ended. live (halted.phase ∙ ended))

pub returns-in-Err-clause-unfiled : goal.returns-in-Err-clause-unfiled
returns-in-Err-clause-unfiled c =
    let halted : Halted c.args.program.now c.loop-exchange.exchange c.step.new.exchange = search rules in
    λ none. same_is_none _ _ halted.choice (c.loop-exchange.invariant.10 none)

pub returns-in-Err-clause-nearer : goal.returns-in-Err-clause-nearer
returns-in-Err-clause-nearer c =
    let halted : Halted c.args.program.now c.loop-exchange.exchange c.step.new.exchange = search rules in
    let walks = halted.walks in
    let near = c.loop-exchange.invariant.9 in
    omega (arith, walks, near)

pub returns-in-Err-clause-connection : goal.returns-in-Err-clause-connection
returns-in-Err-clause-connection c =
    let halted : Halted c.args.program.now c.loop-exchange.exchange c.step.new.exchange = search rules in
    halted.connection ∙ c.loop-exchange.invariant.1

pub returns-in-Err-clause-number : goal.returns-in-Err-clause-number
returns-in-Err-clause-number c =
    let halted : Halted c.args.program.now c.loop-exchange.exchange c.step.new.exchange = search rules in
    halted.number ∙ c.loop-exchange.invariant.2

pub returns-in-Err-clause-request : goal.returns-in-Err-clause-request
returns-in-Err-clause-request c =
    let halted : Halted c.args.program.now c.loop-exchange.exchange c.step.new.exchange = search rules in
    halted.request ∙ c.loop-exchange.invariant.3

pub returns-in-Err-clause-moment : goal.returns-in-Err-clause-moment
returns-in-Err-clause-moment c =
    let halted : Halted c.args.program.now c.loop-exchange.exchange c.step.new.exchange = search rules in
    halted.moment ∙ c.loop-exchange.invariant.4

pub loop-exchange-preserved : goal.loop-exchange-preserved
loop-exchange-preserved c =
    let goes : for_role c.args.role (is_for_worker c.loop-exchange.exchange.stand.mark) next.Stop ≡ next.NeedWorker → ⊥ = search rules in
    let e = c.loop-exchange.exchange in
    let i = c.loop-exchange.invariant in
    let stepped : Stepped c.args.program.now e c.step.new.exchange = search rules in
    let walks = stepped.walks in
    let near = i.9 in
    let scratch : c.step.new.scratch ≡ c.loop-exchange.scratch = search rules in (
      stepped.plan ∙ i.0,
      stepped.connection ∙ i.1,
      stepped.number ∙ i.2,
      stepped.request ∙ i.3,
      stepped.moment ∙ i.4,
      scratch ∙ i.5,
      stays_by_step c.args.role c.args.exchange.now.stand.mark c.args.exchange.now e c.step.new.exchange refl goes stepped.unworked i.6,
      adds_further _ _ _ i.7 stepped.adds,
      λ first. stepped.unchosen (i.8 first),
      omega (arith, walks, near),
      λ none. stepped.unfiled (i.10 none),
    )
