use Rattle.tow_matcher.proofs.Tables.{AreNumbers-more}
use Rattle.tow_matcher.proofs.table.numbers.Goals as goal

pub loop-number-preserved : goal.loop-number-preserved
loop-number-preserved c = let h = c.in_ok-push.ensures.items in rw h (AreNumbers-more _ _ c.loop-number.invariant)
