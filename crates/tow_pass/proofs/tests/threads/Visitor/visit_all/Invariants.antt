use Rattle.std.proofs.Common.{◌≡◌}
use Rattle.tow_pass.specs.Shown.{AreUpTo, IsIssued}
use Rattle.tow_pass.proofs.tests.threads.Visitor.visit_all.Given as goal

abbrev pub invariant-loop-request : goal.invariant-loop-request
invariant-loop-request g l = (l.self.pass.limits ≡ l.fn.self.pass.limits) × IsIssued l.self.pass.view × AreUpTo l.request l.self.pass.view
