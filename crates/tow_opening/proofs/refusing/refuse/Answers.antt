use Rattle.std.proofs.Common.{ℕ, ◌+◌, ◌-◌, ◌^◌, min, sym, ap, ◌∙◌}
use Rattle.tow_opening.proofs.Moments.{clock_told}
use Rattle.tow_opening.proofs.Refusals.{refuses_at}
use Rattle.tow_opening.proofs.refusing.refuse.Goals as goal

pub returns-in-Ok-clause-steps : goal.returns-in-Ok-clause-steps
returns-in-Ok-clause-steps g c = λ s b number begun clock.
    let next = c.saturating_add.result in
    refuses_at s b c.args.status c.at-moment.result next c.in-Ok.text
    (c.saturating_add.ensures ∙ ap (λ (n : ℕ). min (n + 1) (2 ^ 32 - 1)) (sym begun))
    (clock_told (g.C.Clock.table c.args.clock.now) s.moments c.args.number next c.at-moment.result clock c.at-moment.ensures.told
    ∙ ap (λ (k : ℕ). s.moments k next) (sym number))
    c.in-Ok.ensures
