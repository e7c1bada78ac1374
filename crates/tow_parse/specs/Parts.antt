-- The parts of a derivation: its calls in the order of the text, and what joins things behind them.
use Rattle.std.specs.Prelude.{List, [], ◌∷◌, ◌++◌}
use Rattle.tow_language.specs.Raw.{RawCall, RawPredicate, alone, or_more, RawConjunction, single, and_more, RawFactor, test, negated, grouped, RawTarget, handler, restart, done, block, RawStatement, act, when, when_else, RawList, none, more}
use Rattle.tow_parse.specs.declared.part.Part.{Part}
use Rattle.tow_parse.specs.declared.part.Part.TheVariants as parts
use Rattle.tow_fit.specs.Calls.{call_of}

-- a part, with its call as it is written
pub data RawPart : Type 0 where
  a_test : RawCall → RawPart
  a_not : RawPart
  an_and : RawPart
  an_or : RawPart
  a_handler : RawCall → RawPart
  a_restart : RawPart
  a_done : RawPart
  an_open : RawPart
  a_close : RawPart
  a_when : RawPart
  a_when_else : RawPart
  an_end : RawPart

abbrev pub raw_part : Part → RawPart
raw_part (parts.Test call) = a_test (call_of call)
raw_part parts.Not = a_not
raw_part parts.And = an_and
raw_part parts.Or = an_or
raw_part (parts.Handler call) = a_handler (call_of call)
raw_part parts.Restart = a_restart
raw_part parts.Done = a_done
raw_part parts.Open = an_open
raw_part parts.Close = a_close
raw_part parts.When = a_when
raw_part parts.WhenElse = a_when_else
raw_part parts.End = an_end

abbrev mutual
  pub predicate_parts : RawPredicate → List RawPart
  predicate_parts (alone c) = conjunction_parts c
  predicate_parts (or_more c p) = conjunction_parts c ++ or_parts p

  -- what is joined by `or` to what stands before it
  pub or_parts : RawPredicate → List RawPart
  or_parts (alone c) = conjunction_parts c ++ an_or ∷ []
  or_parts (or_more c p) = conjunction_parts c ++ an_or ∷ or_parts p

  pub conjunction_parts : RawConjunction → List RawPart
  conjunction_parts (single f) = factor_parts f
  conjunction_parts (and_more f c) = factor_parts f ++ and_parts c

  pub and_parts : RawConjunction → List RawPart
  and_parts (single f) = factor_parts f ++ an_and ∷ []
  and_parts (and_more f c) = factor_parts f ++ an_and ∷ and_parts c

  pub factor_parts : RawFactor → List RawPart
  factor_parts (test c) = a_test c ∷ []
  factor_parts (negated f) = factor_parts f ++ a_not ∷ []
  factor_parts (grouped p) = predicate_parts p

abbrev mutual
  pub target_parts : RawTarget → List RawPart
  target_parts (handler c) = a_handler c ∷ []
  target_parts restart = a_restart ∷ []
  target_parts done = a_done ∷ []
  target_parts (block raw) = an_open ∷ (list_parts raw ++ a_close ∷ [])

  pub statement_parts : RawStatement → List RawPart
  statement_parts (act t) = target_parts t
  statement_parts (when p t) = predicate_parts p ++ (target_parts t ++ a_when ∷ [])
  statement_parts (when_else p t s) = predicate_parts p ++ (target_parts t ++ (statement_parts s ++ a_when_else ∷ []))

  pub list_parts : RawList → List RawPart
  list_parts none = []
  list_parts (more s raw) = statement_parts s ++ an_end ∷ list_parts raw

abbrev pub parts_of : RawList → List RawPart
parts_of raw = list_parts raw
