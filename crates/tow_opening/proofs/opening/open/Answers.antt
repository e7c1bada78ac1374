use Rattle.tow_turns.specs.Data.{base_of}
use Rattle.tow_opening.proofs.Begins.{opening_fits, opens_at, places_kept}
use Rattle.tow_opening.proofs.Moments.{clock_told}
use Rattle.tow_opening.proofs.opening.open.Goals as goal

pub returns-clause-steps : goal.returns-clause-steps
returns-clause-steps g c = λ s limits clock.
    let b = base_of g.L.Link.shows c.args.base.now in
    let number = c.saturating_add-number.result in
    let moment = c.at-moment.result in
    let calls = c.reserve.new.self in
    opens_at b c.args.request c.args.used number moment calls.cap c.take.new.self calls.items c.in-Ok.exchange c.reserve.ensures.items
    c.take.ensures c.in-Ok.ensures s c.saturating_add-number.ensures
    (clock_told (g.C.Clock.table c.args.clock.now) s.moments b.number number moment clock c.at-moment.ensures.told)
    (places_kept s.tree c.args.limits c.in-Some.places calls.len calls.cap calls.items b.calls limits c.in-Some.ensures.some calls.ok.0
    c.reserve.ensures.items c.in-Ok-reserve.ensures.ok)

pub returns-clause-fits : goal.returns-clause-fits
returns-clause-fits g c = λ role tree told n n' limits.
    let b = base_of g.L.Link.shows c.args.base.now in
    let calls = c.reserve.new.self in
    opening_fits b c.args.request c.args.used c.saturating_add-number.result c.at-moment.result calls.cap c.take.new.self calls.items
    c.in-Ok.exchange c.reserve.ensures.items c.take.ensures c.in-Ok.ensures role tree told n n' c.requires.some c.requires.within
    c.requires.written c.at-moment.ensures.small
    (places_kept tree c.args.limits c.in-Some.places calls.len calls.cap calls.items b.calls limits c.in-Some.ensures.some calls.ok.0
    c.reserve.ensures.items c.in-Ok-reserve.ensures.ok)
