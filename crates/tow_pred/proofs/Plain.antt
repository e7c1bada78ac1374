-- Tests that bind nothing.
use Rattle.std.proofs.Common.{◌≡◌, Bool, true, false, sym, ap}
use Rattle.tow_model.specs.declared.record.Record.{Record}
use Rattle.tow_semantics.specs.Predicates.{Held, held, where_true}

-- an answer, and the record behind it
abbrev pub answer : Bool → Record → Held
answer b y = record { holds = b; state = y }

pub holds_plain : (b c : Bool) (x : Record) → b ≡ c → held (where_true c) x ≡ answer b x
holds_plain b true x e = ap (λ k. answer k x) (sym e)
holds_plain b false x e = ap (λ k. answer k x) (sym e)
