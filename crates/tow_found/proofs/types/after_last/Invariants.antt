use Rattle.std.proofs.Common.{◌≡◌, ◌≤◌, false, drop, length}
use Rattle.tow_found.proofs.Last.{stands_in}
use Rattle.tow_found.proofs.types.after_last.Given as goal

-- the sign does not stand from here on
abbrev pub invariant-loop-from : goal.invariant-loop-from
invariant-loop-from l = (l.from ≤ length l.text) × (stands_in l.sign (drop l.from l.text) ≡ false)

abbrev pub decreases-loop-from : goal.decreases-loop-from
decreases-loop-from l = l.from
