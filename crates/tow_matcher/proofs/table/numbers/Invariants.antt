use Rattle.tow_matcher.specs.Keys.{AreNumbers}
use Rattle.tow_matcher.proofs.table.numbers.Given as goal

abbrev pub invariant-loop-number : goal.invariant-loop-number
invariant-loop-number l = AreNumbers l.number l.numbers.items
