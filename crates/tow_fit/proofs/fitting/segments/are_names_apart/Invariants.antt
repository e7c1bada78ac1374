use Rattle.std.proofs.Common.{◌≡◌, drop}
use Rattle.tow_language.specs.Shapes.{are_names_apart}
use Rattle.tow_fit.proofs.fitting.segments.are_names_apart.Given as goal

abbrev pub invariant-loop-at : goal.invariant-loop-at
invariant-loop-at l = are_names_apart l.parts ≡ are_names_apart (drop l.at l.parts)
