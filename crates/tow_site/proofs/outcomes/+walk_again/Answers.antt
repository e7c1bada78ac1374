use Rattle.std.proofs.Common.{◌≡◌, ℕ, suc, ◌-◌, arith, subst, inl, inr}
use Rattle.std.proofs.lemmas.Result.{IfOk-weaker}
use Rattle.tow_site.specs.Walking.{Leads}
use Rattle.std.specs.Result.{IfOk}
use Rattle.tow_site.proofs.Leading.{leads_next, leads_default, leads_stopped, leads_last, leads_again}
use Rattle.tow_site.proofs.outcomes.+walk_again.Goals as goal

pub returns-then-left-eq0-clause-leads : goal.returns-then-left-eq0-clause-leads
returns-then-left-eq0-clause-leads t c =
    rw (c.if-left-eq0.true, c.answer.ensures) (leads_last _ _ _ _ _ (rw c.in-Restarted.is at c.in_ok-walk_list.ensures.walks))

pub returns-in-Next-clause-leads : goal.returns-in-Next-clause-leads
returns-in-Next-clause-leads t c =
    elim c.in-Next.is [
      | inl is ↦ leads_next _ _ _ _ _ _ (rw is at c.in_ok-walk_list.ensures.walks)
      | inr is ↦ leads_default _ _ _ _ _ _ (rw is at c.in_ok-walk_list.ensures.walks)
    ]

pub returns-in-Stopped-clause-leads : goal.returns-in-Stopped-clause-leads
returns-in-Stopped-clause-leads t c = leads_stopped _ _ _ _ _ _ (rw c.in-Stopped.is at c.in_ok-walk_list.ensures.walks)

pub returns-else-left-eq0-clause-leads : goal.returns-else-left-eq0-clause-leads
returns-else-left-eq0-clause-leads t c =
    let e : suc (c.args.left - 1) ≡ c.args.left = omega (arith, c.if-left-eq0.false) in
    subst (λ (k : ℕ). IfOk c.walk_again.result (λ who. Leads c.args.request.now c.args.moment c.args.statements.now k c.args.state.now who c.walk_again.new.state)) e
    (IfOk-weaker c.walk_again.result _ _ (λ who l. leads_again _ _ _ _ _ _ _ _ (rw c.in-Restarted.is at c.in_ok-walk_list.ensures.walks) l) (rw c.new.ensures at c.walk_again.ensures.leads))
