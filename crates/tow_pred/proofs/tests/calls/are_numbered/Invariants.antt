use Rattle.std.proofs.Common.{◌≡◌, map, take}
use Rattle.std.specs.List.{range_with_len}
use Rattle.tow_pred.specs.Found.{told}
use Rattle.tow_pred.proofs.tests.calls.are_numbered.Given as goal

-- the tests so far are numbered
abbrev pub invariant-loop-number : goal.invariant-loop-number
invariant-loop-number l = map (λ t. t.0) (told (take l.number l.found)) ≡ range_with_len 0 l.number
