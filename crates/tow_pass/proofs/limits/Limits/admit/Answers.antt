use Rattle.std.proofs.Common.{◌≡◌, ℕ, sym, ap, ◌∙◌}
use Rattle.tow_pass.proofs.Steps.{admits}
use Rattle.tow_pass.proofs.Asks.{limit_at, holder_is, rises, next_word, within}
use Rattle.tow_pass.proofs.limits.Limits.admit.Goals as goal

pub compare_exchange-found-requires : goal.compare_exchange-found-requires
compare_exchange-found-requires g c =
    let inside = c.self.inside in
    let l : ℕ = c.args.limit in
    let holder = holder_is c.args.seat.now.me.0.holder c.requires.issued in
    let same : inside.bounds.items ≡ c.args.self.now.bounds = ap (λ x. x.bounds) c.self.view_is in
    let key : inside.table.shared.key.items ≡ inside.bounds.items = c.self.invariant.1 in
    let it = limit_at inside.bounds.items l (rw same c.requires.limit) c.self.invariant.2 in (
      c.requires.limits ∙ sym (ap (λ x. x.name) c.self.view_is),
      within inside.table.shared.table_id.words l inside.bounds.items c.self.invariant.0 (rw same c.requires.limit),
      rw (key, c.requires.picked.0, c.requires.picked.1, next_word l)
          (admits inside.bounds.items _ _ holder.0 l it.bound c.args.seat.now.me c.args.word c.args.request it.is it.fits holder.1 (rises c.args.request c.args.seat.now.me.0 c.requires.request)
          (rw (sym it.most, same) c.requires.room)),
    )
