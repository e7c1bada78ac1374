use Rattle.std.proofs.Common.{◌≡◌, All}
use Rattle.tow_pass.specs.Shown.{AreUpTo, IsIssued, IsMains}
use Rattle.tow_pass.proofs.tests.threads.visitors.Given as goal

abbrev pub invariant-loop : goal.invariant-loop
invariant-loop l =
    (l.main.limits ≡ l.limits.name) × IsMains l.main.view × All (λ x. (x.pass.limits ≡ l.limits.name) × IsIssued x.pass.view × AreUpTo 0 x.pass.view) l.visitors.items
