use Rattle.std.proofs.Common.{◌≡◌, suc, sym, ap, ◌∙◌, subst, Some, slice_get, length, arith}
use Rattle.tow_pass.proofs.Closes.{ends}
use Rattle.tow_pass.proofs.limits.Limits.close_as.Goals as goal

pub load-requires : goal.load-requires
load-requires g c =
    let inside = c.self.inside in
    let key : inside.table.shared.key.items ≡ c.args.self.now.bounds = c.self.invariant.1 ∙ ap (λ x. x.bounds) c.self.view_is in
    let words : inside.table.shared.table_id.words ≡ suc (length inside.bounds.items) = c.self.invariant.0 in (
      c.requires.limits ∙ sym (ap (λ x. x.name) c.self.view_is),
      omega (arith, words),
      rw (key, c.requires.picked) (ends c.args.self.now.bounds _ _ c.args.seat.now.me c.requires.main c.requires.collected),
    )

pub returns-clause-histories : goal.returns-clause-histories
returns-clause-histories g c = λ l b e. c.load.ensures.2.1 l b (subst (λ bounds. slice_get bounds l ≡ Some b) (sym c.requires.picked) e)
