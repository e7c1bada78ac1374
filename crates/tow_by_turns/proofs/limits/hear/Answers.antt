use Rattle.std.proofs.Common.{sym, subst, ◌∙◌}
use Rattle.tow_exchange.specs.Exchanges.{ExchangeData}
use Rattle.tow_stages.specs.Stages.{walking}
use Rattle.tow_turns.specs.Data.{base_of}
use Rattle.tow_turns.specs.Safe.{IsSafe}
use Rattle.tow_turns.specs.Steps.{Leads}
use Rattle.tow_by_turns.proofs.Verdicts.{hears_on, hears_safe}
use Rattle.tow_by_turns.proofs.limits.hear.Goals as goal

pub returns-clause-steps : goal.returns-clause-steps
returns-clause-steps g c =
    let shows = g.L.Link.shows in
    let waits = sym c.phase.ensures ∙ c.in-AwaitsVerdict.is in
    λ s. subst (λ (e : ExchangeData). Leads s (base_of shows c.args.base.now) (base_of shows c.note.new.base) (walking c.args.exchange) (walking e))
    (sym (c.give_verdict.ensures c.in-AwaitsVerdict.limit waits))
    (hears_on shows s c.args.base.now c.note.new.base c.args.exchange c.in-AwaitsVerdict.limit c.args.verdict waits c.note.ensures)

pub returns-clause-safe : goal.returns-clause-safe
returns-clause-safe g c =
    let shows = g.L.Link.shows in
    let waits = sym c.phase.ensures ∙ c.in-AwaitsVerdict.is in
    λ tree told is. subst (λ (e : ExchangeData). IsSafe tree told (base_of shows c.note.new.base) (walking e))
    (sym (c.give_verdict.ensures c.in-AwaitsVerdict.limit waits))
    (hears_safe shows tree told c.args.base.now c.note.new.base c.args.exchange c.in-AwaitsVerdict.limit c.args.verdict waits c.note.ensures is)
