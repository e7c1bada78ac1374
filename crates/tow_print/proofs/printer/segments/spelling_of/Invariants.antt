use Rattle.std.proofs.Common.{◌≡◌, ℕ, List, ◌∷◌, ◌++◌, drop, flat_map}
use Rattle.tow_language.specs.Printed.{spelled_segment}
use Rattle.tow_print.specs.Words.{ahead}
use Rattle.tow_print.proofs.printer.segments.spelling_of.Given as goal

abbrev pub invariant-loop-part : goal.invariant-loop-part
invariant-loop-part l = (bytes : List ℕ) →
    ahead l.seen (flat_map (λ p. 47 ∷ spelled_segment p) (drop l.part-index l.rest) ++ bytes) ≡ ahead l.initial.seen (flat_map (λ p. 47 ∷ spelled_segment p) l.rest ++ bytes)
