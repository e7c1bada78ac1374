use Rattle.std.proofs.Common.{◌≡◌, ◌++◌, take}
use Rattle.std.specs.Prelude.{codes, flat_map}
use Rattle.tow_effect.proofs.handlers.allowed_methods.joined.Given as goal

-- the methods behind the first that were taken stand behind it, each with a comma before it
abbrev pub invariant-loop-method : goal.invariant-loop-method
invariant-loop-method l =
    l.text.items ≡ l.initial.text.items ++ flat_map (λ m. codes ", " ++ m) (take l.method-index l.others)
