use Rattle.std.proofs.Common.{◌≡◌, drop}
use Rattle.tow_notes.specs.Values.{has_escape}
use Rattle.tow_notes.proofs.value.has_escape.Given as goal

abbrev pub invariant-places : goal.invariant-places
invariant-places l = has_escape (drop l.at l.value) ≡ has_escape l.value
