use Rattle.std.proofs.Common.{◌≡◌, take}
use Rattle.tow_pred.proofs.scratch.searches.Given as goal

abbrev pub invariant-loop-pattern : goal.invariant-loop-pattern
invariant-loop-pattern l = l.searches.items ≡ take l.pattern-index l.patterns
