use Rattle.std.proofs.Common.{arith}
use Rattle.tow_history.specs.Legal.{nobody}
use Rattle.tow_history.proofs.Counting.{counts_from}
use Rattle.tow_history.proofs.laws.every_entry_counts.Goals as goal

pub returns : goal.returns
returns c = λ h. let sum = counts_from nobody h in omega (arith, sum)
