-- Patterns that a maker refuses. It counts, by the pattern's text, how often it refused one as too large.
use Rattle.std.specs.Prelude.{◌≡◌, ℕ, List, take, All, IsSomeAnd, slice_get}
use Rattle.tow_link.specs.Data.{Rose}
use Rattle.tow_pattern.specs.Patterns.{IsGoodPattern}
use Rattle.tow_model.specs.Texts.{Text}
use Rattle.tow_pred.specs.declared.fault.PatternFault.{PatternFault}
use Rattle.tow_pred.specs.declared.fault.PatternFault.TheVariants.{BadPattern, LargePattern, NoMemory}

-- the fault of this test
abbrev pub IsFaultOf : ℕ → Text → (Text → ℕ) → (Text → ℕ) → PatternFault → Type 0
IsFaultOf number pattern before now (BadPattern n) = (n ≡ number) × ¬ (IsGoodPattern pattern)
IsFaultOf number pattern before now (LargePattern n) = (n ≡ number) × Rose (before pattern) (now pattern)
IsFaultOf number pattern before now NoMemory = Unit {0}

-- the fault of the first test that has one: the patterns before it are good
abbrev pub IsPatternFault : List Text → (Text → ℕ) → (Text → ℕ) → PatternFault → Type 0
IsPatternFault patterns before now (BadPattern n) =
    IsSomeAnd (slice_get patterns n) (λ p. ¬ (IsGoodPattern p)) × All IsGoodPattern (take n patterns)
IsPatternFault patterns before now (LargePattern n) =
    IsSomeAnd (slice_get patterns n) (λ p. Rose (before p) (now p)) × All IsGoodPattern (take n patterns)
IsPatternFault patterns before now NoMemory = Unit {0}
