use Rattle.std.proofs.Common.{◌≡◌, map, Some}
use Rattle.tow_language.specs.Shapes.{segment_of}
use Rattle.tow_fit.proofs.fitting.segments.all_segments.Given as goal

abbrev pub invariant-loop-text : goal.invariant-loop-text
invariant-loop-text l = map (λ x. segment_of x.now) l.yielded ≡ map (λ p. Some p) l.parts
