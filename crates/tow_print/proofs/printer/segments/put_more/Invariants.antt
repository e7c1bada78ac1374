use Rattle.std.proofs.Common.{◌≡◌, ◌∷◌, ◌++◌, take, flat_map}
use Rattle.tow_language.specs.Printed.{spelled_segment}
use Rattle.tow_print.specs.Words.{bytes_in}
use Rattle.tow_print.proofs.printer.segments.put_more.Given as goal

abbrev pub invariant-loop-part : goal.invariant-loop-part
invariant-loop-part l = l.text.items ≡ l.initial.text.items ++ bytes_in l.style (flat_map (λ p. 47 ∷ spelled_segment p) (take l.part-index l.parts))
