use Rattle.std.proofs.Common.{subst, ap, ◌∙◌}
use Rattle.tow_model.specs.declared.request.Request.{Request}
use Rattle.tow_source.specs.Readings.{unread}
use Rattle.tow_content.specs.Gatherings.{Gathers}
use Rattle.tow_states.specs.Gathering.{is_to_be_told}
use Rattle.tow_turns.proofs.Asks.{asked, asking_goes_on, asking_is_near}
use Rattle.tow_turns.proofs.asking.ask.Goals as goal

pub returns-clause-steps : goal.returns-clause-steps
returns-clause-steps c =
    λ s b. asked s b c.args.exchange c.new-gathering.result c.is_to_be_told-to_invite.result c.requires.waits
    (subst (λ (q : Request). Gathers c.new-gathering.result (unread q.framing)) c.request-asked.ensures c.new-gathering.ensures)
    (c.is_to_be_told-to_invite.ensures ∙ ap is_to_be_told c.request-asked.ensures)

pub returns-clause-safe : goal.returns-clause-safe
returns-clause-safe c = λ tree told b is. record {
  open_so = is;
  waits = c.requires.waits;
  reading_so = unread c.args.exchange.request.framing;
  gathers = subst (λ (q : Request). Gathers c.new-gathering.result (unread q.framing)) c.request-asked.ensures c.new-gathering.ensures;
}

pub returns-clause-near : goal.returns-clause-near
returns-clause-near c = asking_is_near c.args.exchange c.new-gathering.result c.is_to_be_told-to_invite.result

pub returns-clause-goes_on : goal.returns-clause-goes_on
returns-clause-goes_on c = asking_goes_on c.args.exchange c.new-gathering.result c.is_to_be_told-to_invite.result
