-- Regex tests of trees, part by part.
use Rattle.std.proofs.Common.{◌≡◌, ℕ, ◌<◌, List, [], ◌∷◌, ◌++◌, Option, None, Some, map, length, get_or, slice_get, refl, sym, ap, ◌∙◌, subst, arith}
use Rattle.std.proofs.lemmas.List.{append-nil, get_or_default, length-map}
use Rattle.std.proofs.lemmas.List.FromFn.{get_or-range_with_len}
use Rattle.std.proofs.lemmas.Option.{same_Some, slice_get_read}
use Rattle.std.proofs.Math.ListN.{get_or-map}
use Rattle.tow_model.specs.declared.predicate.Predicate.{Predicate}
use Rattle.tow_model.specs.declared.statement.Statement.{Statement, fold-roll-Statement}
use Rattle.tow_model.specs.declared.statement.Statement.TheVariants as st
use Rattle.tow_model.specs.declared.statement.Statement.TheOpen as sf
use Rattle.tow_semantics.specs.Listeners.{joined_lists}
use Rattle.tow_semantics.specs.Predicates.{AreAmong, patterns_in}
use Rattle.tow_model.specs.Texts.{Text}
use Rattle.tow_pred.specs.Numbering.{AreNumbered, statement_patterns_by, statement_patterns, tree_patterns}
use Rattle.tow_pred.proofs.Among.{among_left, among_right}

-- WHAT EACH CONSTRUCT HAS

pub patterns_in_when : (t : Predicate) (a : Statement) → statement_patterns (st.When t a None) ≡ patterns_in t ++ statement_patterns a
patterns_in_when t a =
    ap statement_patterns (sym (st.rolls-When t a None)) ∙ fold-roll-Statement (List (ℕ × Text)) statement_patterns_by (sf.When t a None)
    ∙ ap (λ l. patterns_in t ++ l) (append-nil (statement_patterns a))

pub patterns_in_else : (t : Predicate) (a o : Statement) → statement_patterns (st.When t a (Some o)) ≡ patterns_in t ++ (statement_patterns a ++ statement_patterns o)
patterns_in_else t a o =
    ap statement_patterns (sym (st.rolls-When t a (Some o))) ∙ fold-roll-Statement (List (ℕ × Text)) statement_patterns_by (sf.When t a (Some o))

joined_map : (ts : List Statement) → joined_lists (map statement_patterns ts) ≡ tree_patterns ts
joined_map [] = refl
joined_map (t ∷ ts) = ap (λ k. statement_patterns t ++ k) (joined_map ts)

pub patterns_in_block : (ts : List Statement) → statement_patterns (st.Block ts) ≡ tree_patterns ts
patterns_in_block ts =
    ap statement_patterns (sym (st.rolls-Block ts)) ∙ fold-roll-Statement (List (ℕ × Text)) statement_patterns_by (sf.Block ts) ∙ joined_map ts

-- WHERE A TREE'S TESTS ARE AMONG PATTERNS, SO ARE THOSE OF ITS PARTS

module _ (patterns : List Text) where
  pub among_asked : (t : Predicate) (a : Statement) (other : Option Statement) → AreAmong (statement_patterns (st.When t a other)) patterns → AreAmong (patterns_in t) patterns
  among_asked t a None are = among_left (patterns_in t) (statement_patterns a) patterns (subst (λ ts. AreAmong ts patterns) (patterns_in_when t a) are)
  among_asked t a (Some o) are =
      among_left (patterns_in t) (statement_patterns a ++ statement_patterns o) patterns (subst (λ ts. AreAmong ts patterns) (patterns_in_else t a o) are)

  pub among_then : (t : Predicate) (a : Statement) (other : Option Statement) → AreAmong (statement_patterns (st.When t a other)) patterns → AreAmong (statement_patterns a) patterns
  among_then t a None are =
      among_right (patterns_in t) (statement_patterns a) patterns (subst (λ ts. AreAmong ts patterns) (patterns_in_when t a) are)
  among_then t a (Some o) are =
      among_left (statement_patterns a) (statement_patterns o) patterns
      (among_right (patterns_in t) (statement_patterns a ++ statement_patterns o) patterns (subst (λ ts. AreAmong ts patterns) (patterns_in_else t a o) are))

  pub among_else : (t : Predicate) (a o : Statement) → AreAmong (statement_patterns (st.When t a (Some o))) patterns → AreAmong (statement_patterns o) patterns
  among_else t a o are =
      among_right (statement_patterns a) (statement_patterns o) patterns
      (among_right (patterns_in t) (statement_patterns a ++ statement_patterns o) patterns (subst (λ ts. AreAmong ts patterns) (patterns_in_else t a o) are))

  pub among_block : (ts : List Statement) → AreAmong (statement_patterns (st.Block ts)) patterns → AreAmong (tree_patterns ts) patterns
  among_block ts are = subst (λ ks. AreAmong ks patterns) (patterns_in_block ts) are

  pub among_first : (t : Statement) (ts : List Statement) → AreAmong (tree_patterns (t ∷ ts)) patterns → AreAmong (statement_patterns t) patterns
  among_first t ts are = among_left (statement_patterns t) (tree_patterns ts) patterns are

  pub among_rest : (t : Statement) (ts : List Statement) → AreAmong (tree_patterns (t ∷ ts)) patterns → AreAmong (tree_patterns ts) patterns
  among_rest t ts are = among_right (statement_patterns t) (tree_patterns ts) patterns are

  pub among_at_first : (ts : List Statement) (t : Statement) → slice_get ts 0 ≡ Some t → AreAmong (tree_patterns ts) patterns → AreAmong (statement_patterns t) patterns
  among_at_first [] t e are = absurd cc
  among_at_first (s ∷ ts) t e are = subst (λ k. AreAmong (statement_patterns k) patterns) (same_Some s t e) (among_first s ts are)

-- NUMBERED TESTS

pub number_is : (tests : List (ℕ × Text)) (at : ℕ) (test : ℕ × Text) → AreNumbered tests → at < length tests → test ≡ get_or tests at test → test.0 ≡ at
number_is tests at test numbered within is =
    ap (λ (t : ℕ × Text). t.0) is ∙ sym (get_or-map (λ (t : ℕ × Text). t.0) tests at test)
    ∙ ap (λ ns. get_or ns at test.0) numbered ∙ get_or-range_with_len 0 (length tests) at test.0 within ∙ omega arith

pub pattern_is : (tests : List (ℕ × Text)) (at : ℕ) (test : ℕ × Text) → at < length tests → test ≡ get_or tests at test → slice_get (map (λ t. t.1) tests) at ≡ Some test.1
pattern_is tests at test within is =
    slice_get_read (map (λ (t : ℕ × Text). t.1) tests) (length tests) at test.1 (sym (length-map tests (λ (t : ℕ × Text). t.1))) within
    (ap (λ (t : ℕ × Text). t.1) is ∙ sym (get_or-map (λ (t : ℕ × Text). t.1) tests at test))

-- each is among the patterns of all
pub numbered_among : (tests : List (ℕ × Text)) → AreNumbered tests → AreAmong tests (map (λ t. t.1) tests)
numbered_among tests numbered = λ at other within.
    let test = get_or tests at other in
    let is : test ≡ get_or tests at test = get_or_default tests at other test within in
    ap (λ n. slice_get (map (λ (t : ℕ × Text). t.1) tests) n) (number_is tests at test numbered within is) ∙ pattern_is tests at test within is
