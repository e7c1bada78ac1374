-- Tests that are among patterns, part by part.
use Rattle.std.proofs.Common.{◌≡◌, ℕ, List, [], ◌++◌, Some, slice_get, length, sym, ap, ◌∙◌, subst}
use Rattle.std.proofs.Math.Seq.{take-append_seam, drop-append_seam}
use Rattle.std.proofs.lemmas.List.Elements.{All-drop, All-head, All-same, All-take}
use Rattle.tow_model.specs.declared.attribute.Piece.{Piece}
use Rattle.tow_model.specs.declared.predicate.Predicate.{Predicate, fold-Predicate, fold-roll-Predicate}
use Rattle.tow_model.specs.declared.predicate.Predicate.TheVariants as p
use Rattle.tow_model.specs.declared.predicate.Predicate.TheOpen as pf
use Rattle.tow_model.specs.declared.predicate.Test.{Test}
use Rattle.tow_model.specs.declared.predicate.Test.TheVariants as t
use Rattle.tow_semantics.specs.Predicates.{AreAmong, pattern_of, patterns_by, patterns_in}
use Rattle.tow_model.specs.Texts.{Text}

-- LISTS OF TESTS

pub among_left : (xs ys : List (ℕ × Text)) (patterns : List Text) → AreAmong (xs ++ ys) patterns → AreAmong xs patterns
among_left xs ys patterns are =
    All-same (λ t. slice_get patterns t.0 ≡ Some t.1) xs _ (sym (take-append_seam xs ys)) (All-take (λ t. slice_get patterns t.0 ≡ Some t.1) (length xs) (xs ++ ys) are)

pub among_right : (xs ys : List (ℕ × Text)) (patterns : List Text) → AreAmong (xs ++ ys) patterns → AreAmong ys patterns
among_right xs ys patterns are =
    All-same (λ t. slice_get patterns t.0 ≡ Some t.1) ys _ (sym (drop-append_seam xs ys)) (All-drop (λ t. slice_get patterns t.0 ≡ Some t.1) (length xs) (xs ++ ys) are)

-- WHAT EACH PREDICATE HAS

pub patterns_in_is : (test : Test) → patterns_in (p.Is test) ≡ pattern_of test
patterns_in_is test = ap (fold-Predicate (List (ℕ × Text)) patterns_by) (sym (p.rolls-Is test)) ∙ fold-roll-Predicate (List (ℕ × Text)) patterns_by (pf.Is test)

pub patterns_in_not : (a : Predicate) → patterns_in (p.Not a) ≡ patterns_in a
patterns_in_not a = ap (fold-Predicate (List (ℕ × Text)) patterns_by) (sym (p.rolls-Not a)) ∙ fold-roll-Predicate (List (ℕ × Text)) patterns_by (pf.Not a)

pub patterns_in_and : (a b : Predicate) → patterns_in (p.And a b) ≡ patterns_in a ++ patterns_in b
patterns_in_and a b = ap (fold-Predicate (List (ℕ × Text)) patterns_by) (sym (p.rolls-And a b)) ∙ fold-roll-Predicate (List (ℕ × Text)) patterns_by (pf.And a b)

pub patterns_in_or : (a b : Predicate) → patterns_in (p.Or a b) ≡ patterns_in a ++ patterns_in b
patterns_in_or a b = ap (fold-Predicate (List (ℕ × Text)) patterns_by) (sym (p.rolls-Or a b)) ∙ fold-roll-Predicate (List (ℕ × Text)) patterns_by (pf.Or a b)

pub among_test : (test : Test) (patterns : List Text) → AreAmong (patterns_in (p.Is test)) patterns → AreAmong (pattern_of test) patterns
among_test test patterns are = subst (λ ts. AreAmong ts patterns) (patterns_in_is test) are

pub among_negated : (a : Predicate) (patterns : List Text) → AreAmong (patterns_in (p.Not a)) patterns → AreAmong (patterns_in a) patterns
among_negated a patterns are = subst (λ ts. AreAmong ts patterns) (patterns_in_not a) are

pub among_both_left : (a b : Predicate) (patterns : List Text) → AreAmong (patterns_in (p.And a b)) patterns → AreAmong (patterns_in a) patterns
among_both_left a b patterns are = among_left (patterns_in a) (patterns_in b) patterns (subst (λ ts. AreAmong ts patterns) (patterns_in_and a b) are)

pub among_both_right : (a b : Predicate) (patterns : List Text) → AreAmong (patterns_in (p.And a b)) patterns → AreAmong (patterns_in b) patterns
among_both_right a b patterns are = among_right (patterns_in a) (patterns_in b) patterns (subst (λ ts. AreAmong ts patterns) (patterns_in_and a b) are)

pub among_either_left : (a b : Predicate) (patterns : List Text) → AreAmong (patterns_in (p.Or a b)) patterns → AreAmong (patterns_in a) patterns
among_either_left a b patterns are = among_left (patterns_in a) (patterns_in b) patterns (subst (λ ts. AreAmong ts patterns) (patterns_in_or a b) are)

pub among_either_right : (a b : Predicate) (patterns : List Text) → AreAmong (patterns_in (p.Or a b)) patterns → AreAmong (patterns_in b) patterns
among_either_right a b patterns are = among_right (patterns_in a) (patterns_in b) patterns (subst (λ ts. AreAmong ts patterns) (patterns_in_or a b) are)

-- the pattern of a test that is among them has its number
pub numbered : (number : ℕ) (pattern : Text) (value : List Piece) (patterns : List Text) → AreAmong (pattern_of (t.Regex number pattern value)) patterns
    → slice_get patterns number ≡ Some pattern
numbered number pattern value patterns are = All-head (λ t. slice_get patterns t.0 ≡ Some t.1) (number, pattern) [] are
