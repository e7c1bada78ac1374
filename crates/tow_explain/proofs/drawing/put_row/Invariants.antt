use Rattle.std.proofs.Common.{◌≡◌, ◌≤◌, ◌-◌, ◌++◌, length, drop}
use Rattle.tow_explain.specs.Drawn.{drawn}
use Rattle.tow_explain.proofs.drawing.put_row.Given as goal

abbrev pub invariant-cells : goal.invariant-cells
invariant-cells l =
    (l.at ≤ length l.text) × (l.out.items ++ drawn l.row (drop l.at l.text) ≡ l.initial.out.items ++ drawn l.row l.text)

abbrev pub decreases-cells : goal.decreases-cells
decreases-cells l = length l.text - l.at
