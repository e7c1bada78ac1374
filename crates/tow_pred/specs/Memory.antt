-- Predicates that are asked without memory.
use Rattle.std.specs.Prelude.{Bool, true, false, ◌&&◌}
use Rattle.tow_model.specs.declared.predicate.Test.{Test}
use Rattle.tow_model.specs.declared.predicate.Test.TheVariants.{True, False, Path, Suffix, Method}
use Rattle.tow_model.specs.declared.predicate.Predicate.{Predicate, fold-Predicate}
use Rattle.tow_model.specs.declared.predicate.Predicate.TheOpen.{Predicate-F, Is, Not, And, Or}

-- `true`, `false` and the tests that compare the path or the method as they stand
abbrev pub is_plain_test : Test → Bool
is_plain_test True = true
is_plain_test False = true
is_plain_test (Path paths) = true
is_plain_test (Suffix suffixes) = true
is_plain_test (Method methods) = true
is_plain_test other = false

abbrev pub plain_by : Predicate-F Bool → Bool
plain_by (Is test) = is_plain_test test
plain_by (Not p) = p
plain_by (And p q) = p && q
plain_by (Or p q) = p && q

-- each of its tests is such
abbrev pub is_plain : Predicate → Bool
is_plain = fold-Predicate Bool plain_by
