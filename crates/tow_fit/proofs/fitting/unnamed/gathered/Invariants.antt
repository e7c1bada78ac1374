use Rattle.std.proofs.Common.{◌≡◌, ◌++◌, map, length, option_map}
use Rattle.std.specs.Vec.Iter.{into_iter_items, into_iter_len}
use Rattle.tow_language.specs.Fit.{text_of}
use Rattle.tow_language.specs.Shapes.{all_some}
use Rattle.tow_fit.specs.Calls.{value_of, written_of}
use Rattle.tow_fit.proofs.fitting.unnamed.gathered.Given as goal

abbrev pub invariant-loop-value : goal.invariant-loop-value
invariant-loop-value l =
    (all_some (map text_of (map value_of l.fn.values.items))
    ≡ option_map (λ more. map written_of l.texts ++ more) (all_some (map text_of (map value_of (into_iter_items l.value-iterator)))))
    × (into_iter_len l.value-iterator ≡ length (into_iter_items l.value-iterator))
