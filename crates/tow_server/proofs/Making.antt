-- What making patterns leaves of a host.
use Rattle.std.proofs.Common.{◌≡◌, ◌≢◌, ℕ, List, ap, sym, ◌∙◌}
use Rattle.std.specs.Prelude.{Result, Ok, Err, IfOk}
use Rattle.tow_language.specs.declared.kind.Kind.TheVariants.{LargePattern}
use Rattle.tow_host.specs.Held.{Held}
use Rattle.tow_site.specs.declared.fault.Fault.{Fault}
use Rattle.tow_site.specs.declared.fault.Fault.TheVariants.{Text}

-- only a large pattern changes it
pub makes_nothing : {A : Type 0} (result : Result A Fault) (before now : List ℕ → ℕ) (old new : Held) → (((line column : ℕ) → result ≢ Err (Text LargePattern line column)) → now ≡ before)
    → old.larges ≡ before → new ≡ record old { larges = now } → IfOk result (λ _. new ≡ old)
makes_nothing (Ok a) before now old new only is makes =
    makes ∙ ap (λ (l : List ℕ → ℕ). record old { larges = l }) (only (λ line column (wrong : Ok a ≡ Err (Text LargePattern line column)). cc) ∙ sym is)
makes_nothing (Err e) before now old new only is makes = tt
