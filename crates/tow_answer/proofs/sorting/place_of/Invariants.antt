use Rattle.tow_answer.proofs.Placing.{IsBehind}
use Rattle.tow_answer.proofs.sorting.place_of.Given as goal

abbrev pub invariant-loop-place : goal.invariant-loop-place
invariant-loop-place l = IsBehind l.field l.fields l.place
