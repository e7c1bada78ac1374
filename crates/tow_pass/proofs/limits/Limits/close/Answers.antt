use Rattle.std.proofs.Common.{◌≡◌, ℕ, List, length, Some, slice_get, sym, ap, ◌∙◌, subst, rules}
use Rattle.tow_model.specs.declared.account.Bound.{Bound}
use Rattle.tow_pass.specs.Closing.{AreClosed, Closed, history_of, histories_of}
use Rattle.tow_pass.proofs.Closes.{are_closed}
use Rattle.tow_pass.proofs.limits.Limits.close.Goals as goal

pub returns-clause-histories : goal.returns-clause-histories
returns-clause-histories c =
    let bounds : List Bound = c.args.self.bounds in
    let main = ap (λ x. x.view) c.main.view_is in
    let view = ap (λ m. m.0) c.close_as.ensures.same.1 ∙ main in
    let long : c.len.result ≡ length c.self.inside.bounds.items = search rules in
    let limits : c.len.result ≡ length bounds = long ∙ ap length (ap (λ x. x.bounds) c.self.view_is) in
    let each : (l : ℕ) (b : Bound) → slice_get bounds l ≡ Some b → Closed b c.args.main.view l (history_of c.args.main.view l) =
    λ l b e. subst (λ u. Closed b u l (history_of u l)) main (c.close_as.ensures.histories l b e) in
    subst (λ u. AreClosed bounds c.args.main.view (histories_of u c.len.result)) (sym view) (are_closed bounds c.args.main.view c.len.result limits each)
