-- The first test whose pattern is refused.
use Rattle.std.proofs.Common.{◌≡◌, ℕ, ◌+◌, ◌<◌, ◌≤◌, List, [], ◌∷◌, ◌++◌, All, IsSomeAnd, Some, map, take, length, get_or, slice_get, sym, ap, ◌∙◌, subst, arith}
use Rattle.std.proofs.lemmas.List.{get_or_default, map-append, take-map, take_more}
use Rattle.std.proofs.Math.ListN.{get_or-map}
use Rattle.std.proofs.lemmas.List.Elements.{All-same}
use Rattle.tow_link.specs.Data.{Rose}
use Rattle.tow_pattern.specs.Patterns.{IsGoodPattern}
use Rattle.tow_model.specs.Texts.{Text}
use Rattle.tow_pred.specs.Found.{told}
use Rattle.tow_pred.specs.declared.finding.Found.{Found}
use Rattle.tow_pred.specs.Faults.{IsFaultOf, IsPatternFault}
use Rattle.tow_pred.specs.Numbering.{AreNumbered}
use Rattle.tow_pred.specs.declared.fault.PatternFault.{PatternFault}
use Rattle.tow_pred.specs.declared.fault.PatternFault.TheVariants.{BadPattern, LargePattern, NoMemory}
use Rattle.tow_pred.proofs.Trees.{number_is, pattern_is}

-- a count that rose from a later value rose from an earlier one
rose_before : (before between now : ℕ) → before ≤ between → Rose between now → Rose before now
rose_before before between now later rose = omega (arith, later, rose)

module _ (tests : List (ℕ × Text)) (at : ℕ) (test : ℕ × Text) (numbered : AreNumbered tests) (within : at < length tests) (is : test ≡ get_or tests at test) where
  there : (n : ℕ) → n ≡ test.0 → slice_get (map (λ t. t.1) tests) n ≡ Some test.1
  there n same =
      ap (λ k. slice_get (map (λ (t : ℕ × Text). t.1) tests) k) (same ∙ number_is tests at test numbered within is) ∙ pattern_is tests at test within is

  before_it : (n : ℕ) → n ≡ test.0 → All IsGoodPattern (map (λ t. t.1) (take at tests)) → All IsGoodPattern (take n (map (λ t. t.1) tests))
  before_it n same good =
      All-same IsGoodPattern _ _ (take-map (λ (t : ℕ × Text). t.1) n tests ∙ ap (λ k. map (λ (t : ℕ × Text). t.1) (take k tests)) (same ∙ number_is tests at test numbered within is)) good

  -- the fault of a test is that of all, where the patterns before it are good
  pub first_fault : (before between now : Text → ℕ) (fault : PatternFault) → All IsGoodPattern (map (λ t. t.1) (take at tests))
      → ((p : Text) → before p ≤ between p) → IsFaultOf test.0 test.1 between now fault → IsPatternFault (map (λ t. t.1) tests) before now fault
  first_fault before between now (BadPattern n) good later of =
      (subst (λ o. IsSomeAnd o (λ p. ¬ (IsGoodPattern p))) (sym (there n of.0)) of.1, before_it n of.0 good)
  first_fault before between now (LargePattern n) good later of =
      (subst (λ o. IsSomeAnd o (λ p. Rose (before p) (now p))) (sym (there n of.0)) (rose_before (before test.1) (between test.1) (now test.1) (later test.1) of.1), before_it n of.0 good)
  first_fault before between now NoMemory good later of = tt

-- TESTS AS THEY WERE FOUND

abbrev pub told_of : Found → ℕ × Text
told_of f = (f.number, f.pattern.now)

pub told_at : (found : List Found) (at : ℕ) (other : Found) → at < length found → told_of (get_or found at other) ≡ get_or (told found) at (told_of (get_or found at other))
told_at found at other within =
    ap told_of (get_or_default found at other (get_or found at other) within) ∙ sym (get_or-map told_of found at (get_or found at other))

pub told_more : {X : Type 0} (f : ℕ × Text → X) (found : List Found) (at : ℕ) (other : Found) → at < length found
    → map f (told (take (at + 1) found)) ≡ map f (told (take at found)) ++ f (told_of (get_or found at other)) ∷ []
told_more f found at other within = ap (λ fs. map f (told fs)) (take_more found at other within)
    ∙ ap (map f) (map-append told_of (take at found) (get_or found at other ∷ []))
    ∙ map-append f (told (take at found)) (told (get_or found at other ∷ []))
