use Rattle.std.proofs.Common.{◌≡◌, map, drop}
use Rattle.std.specs.Prelude.{bytes_eq}
use Rattle.std.specs.Map.{lookup}
use Rattle.tow_fit.specs.Fitting.{found_as}
use Rattle.tow_fit.proofs.fitting.givens.place_in.Given as goal

abbrev pub invariant-loop-at : goal.invariant-loop-at
invariant-loop-at l = lookup (bytes_eq l.name) (map found_as l.found) ≡ lookup (bytes_eq l.name) (map found_as (drop l.at l.found))
