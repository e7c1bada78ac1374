use Rattle.std.proofs.Common.{◌≡◌, map}
use Rattle.tow_language.specs.Shapes.{prefix_of}
use Rattle.tow_fit.proofs.fitting.paths.all_prefixes.Given as goal

abbrev pub invariant-loop-text : goal.invariant-loop-text
invariant-loop-text l = l.all ≡ map prefix_of l.yielded
