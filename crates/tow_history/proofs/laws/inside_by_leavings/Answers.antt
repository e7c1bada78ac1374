use Rattle.std.proofs.Common.{arith}
use Rattle.tow_history.specs.Legal.{nobody}
use Rattle.tow_history.proofs.Exchanges.{present_from}
use Rattle.tow_history.proofs.laws.inside_by_leavings.Goals as goal

pub returns : goal.returns
returns c = λ h most queue w ok. let sum = present_from most queue w nobody h ok in omega arith
