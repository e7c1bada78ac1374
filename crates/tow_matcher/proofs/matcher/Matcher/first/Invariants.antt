use Rattle.tow_matcher.specs.Firsts.{IsFirst}
use Rattle.tow_matcher.proofs.Ends.{HoldsBefore}
use Rattle.tow_matcher.proofs.matcher.Matcher.first.Given as goal

abbrev pub invariant-loop-end : goal.invariant-loop-end
invariant-loop-end l = IsFirst (HoldsBefore l.path l.end) l.self l.from l.best
