use Rattle.std.proofs.Common.{ℕ, [], refl, sym, subst}
use Rattle.circular_buffer.specs.Buffer.{Buffer}
use Rattle.tow_heads.specs.declared.requests.NextRequest.TheVariants as next
use Rattle.tow_stages.specs.Stages.{reading}
use Rattle.tow_turns.specs.Data.{base_of, stage_of}
use Rattle.tow_turns.specs.Nexts.{StepFits}
use Rattle.tow_turns.specs.Steps.{Leads}
use Rattle.tow_turns.specs.declared.stage.Then.TheVariants as thens
use Rattle.tow_opening.specs.Heads.{LeadsAt}
use Rattle.tow_opening.proofs.Views.{few_bytes, leads_for, viewed, with_input}
use Rattle.tow_opening.proofs.reading.read_on.Goals as goal

pub next_request-requires : goal.next_request-requires
next_request-requires g c =
    let pipe = c.args.base.now.port.input in
    few_bytes c.view.result.now pipe c.room-room.result c.view.ensures.value c.room-room.ensures c.args.base.now.port.input_len

pub open-requires-clause-some : goal.open-requires-clause-some
open-requires-clause-some g c = (c.in-Request.ensures.reads [] (λ ended. refl)).0

pub returns-in-Request-clause-steps : goal.returns-in-Request-clause-steps
returns-in-Request-clause-steps g c = λ s limits clock.
    let b = base_of g.L.Link.shows c.args.base.now in
    let new = base_of g.L.Link.shows c.open.new.base in
    let after = stage_of c.open.result in
    let asks = next.Request c.in-Request.request c.in-Request.used in
    leads_for s b new after c.peer-peer.result c.view.result.now asks c.peer-peer.ensures c.view.ensures.value c.in-Request.ensures.reads
    (subst (λ (p : Buffer ℕ). LeadsAt asks s (with_input p b) new after) (viewed b.port.input c.view.result.now c.view.ensures.value)
    (c.open.ensures.steps s limits clock))

pub returns-in-Request-clause-fits : goal.returns-in-Request-clause-fits
returns-in-Request-clause-fits g c = λ role tree told n n' limits.
    let b = base_of g.L.Link.shows c.args.base.now in
    let new = base_of g.L.Link.shows c.open.new.base in
    let after = stage_of c.open.result in
    subst (λ (p : Buffer ℕ). StepFits role tree told n n' (with_input p b) new reading after thens.On)
    (viewed b.port.input c.view.result.now c.view.ensures.value) (c.open.ensures.fits role tree told n n' limits)

pub returns-in-Refuse-clause-steps : goal.returns-in-Refuse-clause-steps
returns-in-Refuse-clause-steps g c = λ s limits clock.
    let b = base_of g.L.Link.shows c.args.base.now in
    let after = stage_of c.refuse.result in
    subst (λ (p : Buffer ℕ). Leads s b (with_input p b) reading after) (sym (viewed b.port.input c.view.result.now c.view.ensures.value))
    (leads_for s b b after c.peer-peer.result c.view.result.now (next.Refuse c.in-Refuse.status) c.peer-peer.ensures c.view.ensures.value
    c.in-Refuse.ensures.reads (c.refuse.ensures.steps s b refl refl clock))

pub returns-in-Refuse-clause-fits : goal.returns-in-Refuse-clause-fits
returns-in-Refuse-clause-fits g c = λ role tree told n n' limits.
    let b = base_of g.L.Link.shows c.args.base.now in
    let after = stage_of c.refuse.result in
    subst (λ (p : Buffer ℕ). StepFits role tree told n n' b (with_input p b) reading after thens.On)
    (sym (viewed b.port.input c.view.result.now c.view.ensures.value)) (c.refuse.ensures.fits role tree told n n' b)
