use Rattle.std.proofs.Common.{◌≡◌, ◌+◌, ◌==◌, ◌≤◌, not, take, length, reverse}
use Rattle.std.specs.Prelude.{take_while}
use Rattle.tow_explain.proofs.line.column_behind.Given as goal

abbrev pub invariant-bytes : goal.invariant-bytes
invariant-bytes l = (l.column ≡ 1 + length (take_while (λ b. not (b == 10)) (reverse (take l.byte-index l.front)))) × (l.column ≤ 1 + l.byte-index)
