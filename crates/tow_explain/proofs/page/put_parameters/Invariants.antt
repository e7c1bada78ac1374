use Rattle.std.proofs.Common.{◌≡◌, ◌++◌, take, flat_map, codes}
use Rattle.tow_explain.specs.Forms.{parameter_words}
use Rattle.tow_explain.specs.Pages.{margin}
use Rattle.tow_language.specs.declared.signatures.Parameter.{Parameter}
use Rattle.tow_explain.proofs.page.put_parameters.Given as goal

abbrev pub invariant-loop-parameter : goal.invariant-loop-parameter
invariant-loop-parameter l =
    l.out.items ≡ l.initial.out.items ++ flat_map (λ (p : Parameter). margin l.line (codes " =   ") ++ parameter_words p ++ codes "\n") (take l.parameter-index l.parameters)
