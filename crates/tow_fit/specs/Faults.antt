-- The kind and place that a refusal names; none for want of memory.
use Rattle.std.specs.Prelude.{◌≡◌, ℕ, Option, Some, None, IfSome, Result, Err}
use Rattle.tow_language.specs.declared.kind.Kind.{Kind}
use Rattle.tow_language.specs.declared.kind.Kind.TheVariants as kinds
use Rattle.tow_language.specs.Fit.{TextFault}
use Rattle.tow_fit.specs.declared.fault.ParseFault.{ParseFault}
use Rattle.tow_fit.specs.declared.fault.ParseFault.TheVariants.{Unexpected, TooDeep, UnknownName, BadParameter, BadAttribute, BadTarget, TooManyLimits, NoMemory}

abbrev pub named_at : Kind → ℕ → Option TextFault
named_at kind place = Some (record { kind = kind; place = place })

abbrev pub parse_fault : ParseFault → Option TextFault
parse_fault (Unexpected place) = named_at kinds.Unexpected place
parse_fault (TooDeep place) = named_at kinds.TooDeep place
parse_fault (UnknownName place) = named_at kinds.UnknownName place
parse_fault (BadParameter place) = named_at kinds.BadParameter place
parse_fault (BadAttribute place) = named_at kinds.BadAttribute place
parse_fault (BadTarget place) = named_at kinds.BadTarget place
parse_fault (TooManyLimits place) = named_at kinds.TooManyLimits place
parse_fault NoMemory = None

-- the fault is what the result names; want of memory names nothing
abbrev pub Fails : {A : Type 0} → ParseFault → Result A TextFault → Type 0
Fails e result = IfSome (parse_fault e) (λ f. result ≡ Err f)
