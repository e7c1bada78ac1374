use Rattle.std.proofs.Common.{◌≡◌, map, length, []}
use Rattle.std.specs.Vec.Iter.{into_iter_items, into_iter_len}
use Rattle.tow_language.specs.Fit as fits
use Rattle.tow_fit.specs.Calls.{pair_of}
use Rattle.tow_fit.specs.Fitting.{rows_of, found_as}
use Rattle.tow_fit.proofs.fitting.parameters.found_of.Given as goal

abbrev pub invariant-loop-pair : goal.invariant-loop-pair
invariant-loop-pair l =
    (fits.found_of (rows_of l.rows) [] (map pair_of l.fn.pairs)
    ≡ fits.found_of (rows_of l.rows) (map found_as l.found) (map pair_of (into_iter_items l.pair-iterator)))
    × (into_iter_len l.pair-iterator ≡ length (into_iter_items l.pair-iterator))
