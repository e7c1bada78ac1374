-- How many levels are open at once.
use Rattle.std.specs.Prelude.{ℕ, ◌-◌, ◌<◌, ⊤}
use Rattle.tow_language.specs.Raw.{RawPredicate, alone, or_more, RawConjunction, single, and_more, RawFactor, test, negated, grouped, RawTarget, handler, restart, done, block, RawStatement, act, when, when_else, RawList, none, more}

abbrev mutual
  -- a predicate opens at most n levels; a `not` and a parenthesis each open one
  pub PredicateWithin : ℕ → RawPredicate → Type 0
  PredicateWithin n (alone c) = ConjunctionWithin n c
  PredicateWithin n (or_more c p) = ConjunctionWithin n c × PredicateWithin n p

  pub ConjunctionWithin : ℕ → RawConjunction → Type 0
  ConjunctionWithin n (single f) = FactorWithin n f
  ConjunctionWithin n (and_more f c) = FactorWithin n f × ConjunctionWithin n c

  pub FactorWithin : ℕ → RawFactor → Type 0
  FactorWithin n (test c) = ⊤
  FactorWithin n (negated f) = (0 < n) × FactorWithin (n - 1) f
  FactorWithin n (grouped p) = (0 < n) × PredicateWithin (n - 1) p

abbrev mutual
  -- a statement opens at most n levels; a block and an `else` each open one
  pub TargetWithin : ℕ → RawTarget → Type 0
  TargetWithin n (handler c) = ⊤
  TargetWithin n restart = ⊤
  TargetWithin n done = ⊤
  TargetWithin n (block raw) = (0 < n) × ListWithin (n - 1) raw

  pub StatementWithin : ℕ → RawStatement → Type 0
  StatementWithin n (act t) = TargetWithin n t
  StatementWithin n (when p t) = PredicateWithin n p × TargetWithin n t
  StatementWithin n (when_else p t s) = PredicateWithin n p × TargetWithin n t × (0 < n) × StatementWithin (n - 1) s

  pub ListWithin : ℕ → RawList → Type 0
  ListWithin n none = ⊤
  ListWithin n (more s raw) = StatementWithin n s × ListWithin n raw
