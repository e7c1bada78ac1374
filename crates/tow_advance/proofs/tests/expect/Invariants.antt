use Rattle.std.proofs.Common.{◌<◌}
use Rattle.tow_model.specs.Dates.{first_undated}
use Rattle.tow_advance.proofs.tests.expect.Given as goal

abbrev pub invariant-loop-turn : goal.invariant-loop-turn
invariant-loop-turn g l = l.exchange.moment < first_undated
