use Rattle.std.proofs.Common.{◌≡◌, suc, sym, ap, ◌∙◌, length, arith}
use Rattle.tow_pass.specs.Calls.{is_connection}
use Rattle.tow_pass.proofs.Passing.{collected}
use Rattle.tow_pass.proofs.Asks.{holder_is}
use Rattle.tow_pass.proofs.limits.Limits.collect.Goals as goal

pub join_seat-requires : goal.join_seat-requires
join_seat-requires c =
    let inside = c.self.inside in
    let words : inside.table.shared.table_id.words ≡ suc (length inside.bounds.items) = c.self.invariant.0 in
    let holder = holder_is c.pass.inside.seat.me.0.holder (ap (λ x. is_connection x.view.holder) c.pass.view_is ∙ c.requires.issued) in
    let name = sym (ap (λ x. x.name) c.self.view_is) in (
      ap (λ x. x.limits) c.main.view_is ∙ c.requires.limits.0 ∙ name,
      ap (λ x. x.limits) c.pass.view_is ∙ c.requires.limits.1 ∙ name,
      c.pass.invariant,
      omega (arith, words),
      collected inside.table.shared.key.items c.main.inside.seat.id c.pass.inside.seat.id holder.0 c.main.inside.seat.me.0 c.pass.inside.seat.me.0
          (ap (λ x. x.view.holder) c.main.view_is ∙ c.requires.main) holder.1,
    )
