use Rattle.std.proofs.Common.{◌≡◌, ℕ, sym, ap, ◌∙◌}
use Rattle.tow_pass.proofs.Steps.{turns_away}
use Rattle.tow_pass.proofs.Asks.{limit_at, holder_is, rises, next_word, within}
use Rattle.tow_pass.proofs.limits.Limits.look.Goals as goal

pub load-requires : goal.load-requires
load-requires g c =
    let inside = c.self.inside in
    let l : ℕ = c.args.limit in
    let holder = holder_is c.args.seat.now.me.0.holder c.requires.issued in
    let same : inside.bounds.items ≡ c.args.self.now.bounds = ap (λ x. x.bounds) c.self.view_is in
    let key : inside.table.shared.key.items ≡ inside.bounds.items = c.self.invariant.1 in
    let it = limit_at inside.bounds.items l (rw same c.requires.limit) c.self.invariant.2 in (
      c.requires.limits ∙ sym (ap (λ x. x.name) c.self.view_is),
      within inside.table.shared.table_id.words l inside.bounds.items c.self.invariant.0 (rw same c.requires.limit),
      rw (key, c.requires.picked.0, c.requires.picked.1, c.requires.picked.2, sym same, it.most, next_word l)
          (turns_away inside.bounds.items _ _ holder.0 l it.bound c.args.seat.now.me c.args.request it.is it.fits holder.1 (rises c.args.request c.args.seat.now.me.0 c.requires.request)),
    )
