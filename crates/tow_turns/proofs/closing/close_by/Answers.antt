use Rattle.std.proofs.Common.{ℕ, Option, Some, refl, sym, ap, subst}
use Rattle.tow_states.specs.Leaving.{left_in}
use Rattle.tow_stages.specs.Stages as model
use Rattle.tow_turns.specs.Data.{base_of, stage_of}
use Rattle.tow_turns.specs.Listeners.{Runs}
use Rattle.tow_turns.specs.Logging.{LeadsTelling}
use Rattle.tow_turns.proofs.Tellings.{stays}
use Rattle.tow_turns.proofs.closing.close_by.Goals as goal

pub returns-in-Some-clause-steps : goal.returns-in-Some-clause-steps
returns-in-Some-clause-steps g c =
    let log = Some (g.G.LogSink.shows c.args.log.now) in
    let b = base_of g.L.Link.shows c.args.base.now in
    λ s. subst (λ (owed : Option ℕ). LeadsTelling log log s b b
    (model.closing c.args.completing.closing owed c.args.completing.end)
    (model.closing c.args.completing.closing (Some c.in-Some.limit) c.args.completing.end)) (sym c.in-Some.is)
    (stays s log b (model.closing c.args.completing.closing (Some c.in-Some.limit) c.args.completing.end))

pub returns-in-None-clause-steps : goal.returns-in-None-clause-steps
returns-in-None-clause-steps g c =
    λ s. subst (λ (owed : Option ℕ). LeadsTelling (Some (g.G.LogSink.shows c.args.log.now)) (Some (g.G.LogSink.shows c.run_next.new.log)) s
    (base_of g.L.Link.shows c.args.base.now) (base_of g.L.Link.shows c.run_next.new.base)
    (model.closing c.args.completing.closing owed c.args.completing.end) (stage_of c.run_next.result.0))
    (sym c.in-None.is) (c.run_next.ensures.steps s)

pub returns-in-Some-clause-runs : goal.returns-in-Some-clause-runs
returns-in-Some-clause-runs g c =
    let d = c.args.completing.closing in
    (refl, ap (λ (owed : Option ℕ). left_in owed d) (sym c.in-Some.is), refl)

pub returns-in-None-clause-runs : goal.returns-in-None-clause-runs
returns-in-None-clause-runs g c =
    subst (λ (owed : Option ℕ). Runs (left_in owed c.args.completing.closing) c.args.completing.end c.run_next.result.0 c.run_next.result.1)
    (sym c.in-None.is) c.run_next.ensures.runs
