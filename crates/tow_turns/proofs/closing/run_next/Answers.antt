use Rattle.std.proofs.Common.{Option, None, Some, refl, sym, subst}
use Rattle.tow_model.specs.declared.account.End.{End}
use Rattle.tow_closing.specs.Closings.{Does}
use Rattle.tow_closing.specs.declared.work.Work.{Work}
use Rattle.tow_stages.specs.Stages as model
use Rattle.tow_turns.specs.Data.{base_of}
use Rattle.tow_turns.specs.Logging.{LeadsTelling}
use Rattle.tow_turns.proofs.Runs.{leaves_next, tells_next}
use Rattle.tow_turns.proofs.Tellings.{leaves_limit, goes_on, has_ended}
use Rattle.tow_turns.proofs.closing.run_next.Goals as goal

pub returns-in-Some-Leave-clause-steps : goal.returns-in-Some-Leave-clause-steps
returns-in-Some-Leave-clause-steps g c =
    λ s. leaves_limit s (Some (g.G.LogSink.shows c.args.log.now)) (base_of g.L.Link.shows c.args.base.now) c.args.closing
    c.next.new.self c.args.end c.in-Some-Leave.limit
    (subst (λ (w : Work). Does w c.args.closing c.next.new.self) c.in-Some-Leave.field-0-is c.in-Some-Leave.ensures.some)
    c.in-Some-Leave.ensures.lost

pub returns-in-Some-Leave-clause-runs : goal.returns-in-Some-Leave-clause-runs
returns-in-Some-Leave-clause-runs g c = (
  refl,
  leaves_next c.in-Some-Leave.limit c.args.closing c.next.new.self
      (subst (λ (w : Work). Does w c.args.closing c.next.new.self) c.in-Some-Leave.field-0-is c.in-Some-Leave.ensures.some),
  refl,
)

pub returns-in-Some-Tell-clause-runs : goal.returns-in-Some-Tell-clause-runs
returns-in-Some-Tell-clause-runs g c =
    tells_next c.in-Some-Tell.number c.in-Some-Tell.line c.args.closing c.next.new.self c.args.end c.tell.result
    (subst (λ (w : Work). Does w c.args.closing c.next.new.self) c.in-Some-Tell.field-0-is c.in-Some-Tell.ensures.some)
    c.tell.ensures.told

pub returns-in-Some-Tell-clause-steps : goal.returns-in-Some-Tell-clause-steps
returns-in-Some-Tell-clause-steps g c =
    λ s. c.tell.ensures.steps s c.args.closing
    (subst (λ (w : Work). Does w c.args.closing c.next.new.self) c.in-Some-Tell.field-0-is c.in-Some-Tell.ensures.some)
    c.in-Some-Tell.ensures.lost

pub returns-in-None-end-clause-steps : goal.returns-in-None-end-clause-steps
returns-in-None-end-clause-steps g c =
    let log = Some (g.G.LogSink.shows c.args.log.now) in
    let b = base_of g.L.Link.shows c.args.base.now in
    λ s. subst (λ (end : Option End). LeadsTelling log log s b b (model.closing c.args.closing None end) model.reading)
    (sym c.in-None-end.is) (goes_on s log b c.args.closing c.in-None.ensures.none)

pub returns-clause-steps : goal.returns-clause-steps
returns-clause-steps g c =
    let log = Some (g.G.LogSink.shows c.args.log.now) in
    let b = base_of g.L.Link.shows c.args.base.now in
    λ s. subst (λ (end : Option End). LeadsTelling log log s b b (model.closing c.args.closing None end) (model.ended c.in-Some.end))
    (sym c.in-Some.is) (has_ended s log b c.args.closing c.in-Some.end c.in-None.ensures.none)
