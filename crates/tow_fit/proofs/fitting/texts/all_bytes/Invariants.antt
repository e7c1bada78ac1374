use Rattle.std.proofs.Common.{◌≡◌, map}
use Rattle.tow_fit.specs.Fitting.{bytes_of}
use Rattle.tow_fit.proofs.fitting.texts.all_bytes.Given as goal

abbrev pub invariant-loop-text : goal.invariant-loop-text
invariant-loop-text l = l.all ≡ map bytes_of l.yielded
