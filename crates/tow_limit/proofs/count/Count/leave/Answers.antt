use Rattle.std.proofs.Common.{sym, subst}
use Rattle.tow_limit.specs.Shows.{Shows}
use Rattle.tow_limit.proofs.Entering.{leaves}
use Rattle.tow_limit.proofs.count.Count.leave.Goals as goal

pub returns-clause-history : goal.returns-clause-history
returns-clause-history c = λ h k l j s has. leaves (record { most = c.self.inside.most; inside = c.self.inside.inside }) h k l j (subst (λ v. Shows v h) (sym c.self.view_is) s) has
