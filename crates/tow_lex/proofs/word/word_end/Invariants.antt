use Rattle.std.proofs.Common.{length, ◌-◌, ◌≤◌, false}
use Rattle.tow_lex.specs.Scan.{Leads}
use Rattle.tow_lex.proofs.word.word_end.Given as goal

abbrev pub invariant-loop-at : goal.invariant-loop-at
invariant-loop-at l = (l.from ≤ l.at) × (l.at ≤ length l.text) × Leads l.text false l.from false l.at

abbrev pub decreases-loop-at : goal.decreases-loop-at
decreases-loop-at l = length l.text - l.at
