use Rattle.std.proofs.Common.{◌≡◌, ◌+◌, ◌==◌, ◌≤◌, take}
use Rattle.std.specs.Prelude.{count_by}
use Rattle.tow_explain.proofs.line.line_behind.Given as goal

abbrev pub invariant-bytes : goal.invariant-bytes
invariant-bytes l = (l.line ≡ 1 + count_by (λ b. b == 10) (take l.byte-index l.front)) × (l.line ≤ 1 + l.byte-index)
