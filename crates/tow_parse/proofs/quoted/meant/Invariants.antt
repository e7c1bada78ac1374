use Rattle.std.proofs.Common.{◌≡◌, ◌++◌}
use Rattle.std.specs.Prelude.{slice_range}
use Rattle.tow_language.specs.Symbols.{unescaped}
use Rattle.tow_parse.proofs.quoted.meant.Given as goal

abbrev pub invariant-loop-at : goal.invariant-loop-at
invariant-loop-at l = l.bytes.items ++ unescaped l.quote (slice_range l.spelled l.at l.end) ≡ unescaped l.quote (slice_range l.spelled 1 l.end)
