-- The fault of a text, with its line and column.
use Rattle.std.proofs.Common.{◌≡◌, ℕ, List, inl, refl, sym, subst}
use Rattle.tow_language.specs.declared.kind.Kind.{Kind}
use Rattle.tow_language.specs.Fault.{IsFault}
use Rattle.tow_site.specs.declared.fault.Fault.{Fault}
use Rattle.tow_site.specs.declared.fault.Fault.TheVariants.{Text, NoMemory}
use Rattle.tow_site.specs.Compiled.{fault_of, IsFaultOfText, IsTreeFault}

pub named : (text : List ℕ) (kind : Kind) (place : ℕ) (f : Fault) → f ≡ fault_of text kind place → IsFault text kind place → IsTreeFault text f
named text kind place f is fault = subst (IsTreeFault text) (sym is) (place, fault, refl)

-- a text that has no tree has that fault, whatever the maker counted
pub any_count : (text : List ℕ) (before now : List ℕ → ℕ) (f : Fault) → IsTreeFault text f → IsFaultOfText text before now f
any_count text before now (Text kind line column) (place, fault, is) = (place, inl fault, is)
any_count text before now NoMemory is = tt
