use Rattle.std.proofs.Common.{◌≡◌, true, drop}
use Rattle.tow_language.specs.Tokens.{is_open}
use Rattle.tow_lex.specs.Scan.{Leads}
use Rattle.tow_lex.proofs.word.brace_end.Given as goal

abbrev pub invariant-loop-at : goal.invariant-loop-at
invariant-loop-at l = Leads l.text true l.from true l.at × (is_open (drop l.from l.text) ≡ is_open (drop l.at l.text))
