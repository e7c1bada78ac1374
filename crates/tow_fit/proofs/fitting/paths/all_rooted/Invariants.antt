use Rattle.std.proofs.Common.{◌≡◌, map}
use Rattle.tow_model.specs.Paths.{rooted}
use Rattle.tow_fit.proofs.fitting.paths.all_rooted.Given as goal

abbrev pub invariant-loop-text : goal.invariant-loop-text
invariant-loop-text l = l.all ≡ map rooted l.yielded
