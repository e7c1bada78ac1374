use Rattle.std.proofs.Common.{◌≡◌, ◌++◌, take, flat_map, codes}
use Rattle.tow_language.specs.Printed.{printed_template}
use Rattle.tow_print.proofs.printer.templates.put_more.Given as goal

abbrev pub invariant-loop-one : goal.invariant-loop-one
invariant-loop-one l = l.text.items ≡ l.initial.text.items ++ flat_map (λ t. codes ", " ++ printed_template t) (take l.one-index l.templates)
