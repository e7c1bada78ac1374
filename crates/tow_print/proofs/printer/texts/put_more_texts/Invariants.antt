use Rattle.std.proofs.Common.{◌≡◌, ◌++◌, take, flat_map, codes}
use Rattle.tow_language.specs.Printed.{printed_text}
use Rattle.tow_print.proofs.printer.texts.put_more_texts.Given as goal

abbrev pub invariant-loop-one : goal.invariant-loop-one
invariant-loop-one l = l.text.items ≡ l.initial.text.items ++ flat_map (λ t. codes ", " ++ printed_text t) (take l.one-index l.texts)
