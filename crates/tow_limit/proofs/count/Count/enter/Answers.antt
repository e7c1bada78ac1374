use Rattle.std.proofs.Common.{sym, subst, arith, ◌++◌, ◌∷◌, []}
use Rattle.tow_history.specs.Legal.{entry_of}
use Rattle.tow_model.specs.declared.account.What.TheVariants.{Enter}
use Rattle.tow_model.specs.declared.account.Verdict.TheVariants.{Refused}
use Rattle.tow_limit.specs.Shows.{Shows}
use Rattle.tow_limit.proofs.Entering.{admits, refuses}
use Rattle.tow_limit.proofs.count.Count.enter.Goals as goal

pub returns-then-self-clause-history : goal.returns-then-self-clause-history
returns-then-self-clause-history c = λ h k l j s. admits (record { most = c.self.inside.most; inside = c.self.inside.inside }) h k l j c.if-self.true (subst (λ v. Shows v h) (sym c.self.view_is) s)

pub returns-else-self-clause-history : goal.returns-else-self-clause-history
returns-else-self-clause-history c = λ h k l j s. subst (λ v. Shows v (h ++ entry_of k l j (Enter Refused) ∷ [])) c.self.view_is (refuses (record { most = c.self.inside.most; inside = c.self.inside.inside }) h k l j (omega (arith, c.self.invariant, c.if-self.false)) (subst (λ v. Shows v h) (sym c.self.view_is) s))
