use Rattle.std.proofs.Common.{◌≡◌, suc, sym, ap, ◌∙◌, length, arith}
use Rattle.tow_pass.proofs.Passing.{issued}
use Rattle.tow_pass.proofs.limits.Limits.issue.Goals as goal

pub split_seat-requires : goal.split_seat-requires
split_seat-requires c =
    let inside = c.self.inside in
    let words : inside.table.shared.table_id.words ≡ suc (length inside.bounds.items) = c.self.invariant.0 in
    let main = ap (λ x. x.view.holder) c.main.view_is ∙ c.requires.main in (
      ap (λ x. x.limits) c.main.view_is ∙ c.requires.limits ∙ sym (ap (λ x. x.name) c.self.view_is),
      omega (arith, words),
      issued inside.table.shared.key.items c.main.inside.seat.id c.main.inside.seat.me.0 main,
    )
