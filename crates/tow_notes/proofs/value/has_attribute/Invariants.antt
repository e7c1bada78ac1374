use Rattle.std.proofs.Common.{◌≡◌, drop}
use Rattle.tow_notes.specs.Values.{has_attribute}
use Rattle.tow_notes.proofs.value.has_attribute.Given as goal

abbrev pub invariant-places : goal.invariant-places
invariant-places l = has_attribute (drop l.at l.value) ≡ has_attribute l.value
