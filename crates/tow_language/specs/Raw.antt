-- What a text says before any name is looked up: the derivation of the grammar, with each call as it is written.
use Rattle.std.specs.Prelude.{ℕ, List}

-- the bytes of a Word, or those between quotes, and the place where the token begins
pub record Written : Type 0 where
  pub bytes : List ℕ
  pub place : ℕ

-- one text, or an array at its opening brace
pub data RawValue : Type 0 where
  one : Written → RawValue
  array : ℕ → List Written → RawValue

pub data RawParameters : Type 0 where
  unnamed : List RawValue → RawParameters
  named : List (Written × RawValue) → RawParameters

pub record RawCall : Type 0 where
  pub name : Written
  pub parameters : RawParameters

mutual
  -- conjunctions joined by `or`
  pub data RawPredicate : Type 0 where
    alone : RawConjunction → RawPredicate
    or_more : RawConjunction → RawPredicate → RawPredicate

  -- factors joined by `and`
  pub data RawConjunction : Type 0 where
    single : RawFactor → RawConjunction
    and_more : RawFactor → RawConjunction → RawConjunction

  pub data RawFactor : Type 0 where
    test : RawCall → RawFactor
    negated : RawFactor → RawFactor
    grouped : RawPredicate → RawFactor

mutual
  pub data RawTarget : Type 0 where
    handler : RawCall → RawTarget
    restart : RawTarget
    done : RawTarget
    block : RawList → RawTarget

  pub data RawStatement : Type 0 where
    act : RawTarget → RawStatement
    when : RawPredicate → RawTarget → RawStatement
    when_else : RawPredicate → RawTarget → RawStatement → RawStatement

  pub data RawList : Type 0 where
    none : RawList
    more : RawStatement → RawList → RawList
