use Rattle.std.proofs.Common.{◌<◌}
use Rattle.tow_model.specs.Dates.{first_undated}
use Rattle.tow_closing.proofs.tests.closing.Given as goal

abbrev pub invariant-loop-listener : goal.invariant-loop-listener
invariant-loop-listener l = l.exchange.moment < first_undated
