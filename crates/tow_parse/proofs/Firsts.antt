-- With which tokens something may begin.
use Rattle.std.specs.Prelude.{◌≡◌, ◌↔◌, ◌⊎◌, Bool, true, false, Option, Some, None, List, [], ◌∷◌}
use Rattle.std.proofs.Common.{refl, sym, ◌∙◌, ap}
use mathlib.Core.Logic.{inl, inr}
use Rattle.tow_language.specs.declared.token.TokenKind.TheVariants as kinds
use Rattle.tow_language.specs.Raw.{RawPredicate, alone, or_more, single, and_more, RawFactor, test, negated, grouped, RawTarget, handler, restart, done, block, RawStatement, act, when, when_else, RawList, none, more}
use Rattle.tow_language.specs.Symbols.{Sign, mark, Symbol}
use Rattle.tow_language.specs.Grammar.{Rest, FactorThen, PredicateThen, SeparatorThen, SeparatorsThen, ends_in_brace, TargetThen, StatementThen, ListThen}
use Rattle.tow_parse.specs.declared.goal.Goal.{Goal}
use Rattle.tow_parse.specs.declared.goal.Goal.TheVariants.{Statements, Joined, Else, Told}
use Rattle.tow_parse.specs.declared.goal.Joint.TheVariants as joints
use Rattle.tow_parse.specs.declared.look.Look.{Look}
use Rattle.tow_parse.specs.declared.look.Look.TheVariants as looks
use Rattle.tow_parse.specs.Follows.{Onward, Fills, AllThen, JoinedFill, JoinedThen, ElseOrEnd, After, Closed}
use Rattle.tow_parse.specs.Looks.{Shows}
use Rattle.tow_parse.specs.Shape.{factor, target, statement, Behind, Shaped}
use Rattle.tow_parse.proofs.Shown.{same_look}

-- a symbol has a look that is among some
abbrev pub First : (Look → Bool) → Symbol → Type 0
First f x = (look : Look) × Shows look x.sign × (f look ≡ true)

pub first_no : (f : Look → Bool) (x : Symbol) (look : Look) → Shows look x.sign → f look ≡ false → First f x → ⊥
first_no f x look shows off one = let e : true ≡ false = sym one.2 ∙ ap f (same_look one.0 look x.sign one.1 shows) ∙ off in cc

abbrev pub after_factor : Look → Bool
after_factor looks.And = true
after_factor looks.Or = true
after_factor looks.CloseRound = true
after_factor looks.Arrow = true
after_factor look = false

abbrev pub after_statement : Look → Bool
after_statement looks.Newline = true
after_statement looks.Semi = true
after_statement looks.CloseBrace = true
after_statement look = false

abbrev pub after_target : Look → Bool
after_target looks.Newline = true
after_target looks.Semi = true
after_target looks.CloseBrace = true
after_target looks.Else = true
after_target look = false

abbrev pub begins_statement : Look → Bool
begins_statement looks.Name = true
begins_statement looks.Not = true
begins_statement looks.OpenRound = true
begins_statement looks.Restart = true
begins_statement looks.Done = true
begins_statement looks.OpenBrace = true
begins_statement look = false

pub factor_first : (f : RawFactor) (L : Rest) (x : Symbol) (xs : List Symbol) → FactorThen f L (x ∷ xs) → First begins_statement x
factor_first (test c) L x xs a = (looks.Name, (c.name.bytes, a.1.0, a.0), refl)
factor_first (negated f) L x xs a = (looks.Not, a.0, refl)
factor_first (grouped p) L x xs a = (looks.OpenRound, a.0, refl)

predicate_first : (p : RawPredicate) (L : Rest) (x : Symbol) (xs : List Symbol) → PredicateThen p L (x ∷ xs) → First begins_statement x
predicate_first (alone (single f)) L x xs a = factor_first f _ x xs a
predicate_first (alone (and_more f c)) L x xs a = factor_first f _ x xs a
predicate_first (or_more (single f) p) L x xs a = factor_first f _ x xs a
predicate_first (or_more (and_more f c) p) L x xs a = factor_first f _ x xs a

pub target_first : (t : RawTarget) (L : Rest) (x : Symbol) (xs : List Symbol) → TargetThen t L (x ∷ xs) → First begins_statement x
target_first (handler c) L x xs a = (looks.Name, (c.name.bytes, a.1.0, a.0), refl)
target_first restart L x xs a = (looks.Restart, a.0, refl)
target_first done L x xs a = (looks.Done, a.0, refl)
target_first (block raw) L x xs a = (looks.OpenBrace, a.0, refl)

pub statement_first : (s : RawStatement) (L : Rest) (x : Symbol) (xs : List Symbol) → StatementThen s L (x ∷ xs) → First begins_statement x
statement_first (act t) L x xs a = target_first t L x xs a
statement_first (when p t) L x xs a = predicate_first p _ x xs a
statement_first (when_else p t s) L x xs a = predicate_first p _ x xs a

abbrev pub IsSeparator : Sign → Type 0
IsSeparator s = (s ≡ mark kinds.Newline) ⊎ (s ≡ mark kinds.Semi)

pub separator_first : (x : Symbol) → IsSeparator x.sign → First after_statement x
separator_first x (inl e) = (looks.Newline, e, refl)
separator_first x (inr e) = (looks.Semi, e, refl)

target_of : (x : Symbol) → First after_statement x → First after_target x
target_of x (looks.Newline, s, e) = (looks.Newline, s, refl)
target_of x (looks.Semi, s, e) = (looks.Semi, s, refl)
target_of x (looks.CloseBrace, s, e) = (looks.CloseBrace, s, refl)
target_of x (look, s, e) = absurd cc

pub closed_first : (nested : Bool) (K : Onward) (x : Symbol) (xs : List Symbol) → Closed nested K (x ∷ xs) → x.sign ≡ mark kinds.CloseBrace
closed_first true K x xs a = a.0
closed_first false K x xs a = absurd cc

-- a list at its first statement
pub list_front : (s : RawStatement) (raw : RawList) (L : Rest) (xs : List Symbol) → ListThen (more s raw) L xs → SeparatorsThen (StatementThen s (After (ends_in_brace s) raw L)) xs
list_front s none L xs a = a
list_front s (more t raw) L xs a = a

pub front_list : (s : RawStatement) (raw : RawList) (L : Rest) (xs : List Symbol) → SeparatorsThen (StatementThen s (After (ends_in_brace s) raw L)) xs → ListThen (more s raw) L xs
front_list s none L xs a = a
front_list s (more t raw) L xs a = a

-- the rest of a list where a statement may not follow directly
pub after_first : (raw : RawList) (nested : Bool) (K : Onward) (x : Symbol) (xs : List Symbol) → After false raw (Closed nested K) (x ∷ xs) → First after_statement x
after_first none nested K x xs (inl a) = (looks.CloseBrace, closed_first nested K x xs a, refl)
after_first none nested K x xs (inr a) = separator_first x a.0
after_first (more s raw) nested K x xs (inl a) = (looks.Newline, a.0, refl)
after_first (more s raw) nested K x xs (inr a) = (looks.Semi, a.0, refl)

module _ (nested : Bool) (K : Onward) (x : Symbol) (xs : List Symbol) where
  -- no `else` and no Arrow begins the rest of a list
  pub after_no : (raw : RawList) (free : Bool) (look : Look) → Shows look x.sign → after_statement look ≡ false → begins_statement look ≡ false →
      After free raw (Closed nested K) (x ∷ xs) → ⊥
  after_no raw false look shows off none_begins a = first_no after_statement x look shows off (after_first raw nested K x xs a)
  after_no none true look shows off none_begins a = first_no after_statement x look shows off (after_first none nested K x xs a)
  after_no (more s raw) true look shows off none_begins a = front (list_front s raw (Closed nested K) (x ∷ xs) a)
    where
      front : SeparatorsThen (StatementThen s (After (ends_in_brace s) raw (Closed nested K))) (x ∷ xs) → ⊥
      front (inl b) = first_no begins_statement x look shows none_begins (statement_first s _ x xs b)
      front (inr b) = first_no after_statement x look shows off (separator_first x b.0)

  -- a separator in the rest of a list
  module _ (sep : IsSeparator x.sign) where
    not_closed : Closed nested K (x ∷ xs) → ⊥
    not_closed a = clash sep
      where
        clash : IsSeparator x.sign → ⊥
        clash (inl e) = let f : mark kinds.CloseBrace ≡ mark kinds.Newline = sym (closed_first nested K x xs a) ∙ e in cc
        clash (inr e) = let f : mark kinds.CloseBrace ≡ mark kinds.Semi = sym (closed_first nested K x xs a) ∙ e in cc

    no_statement : (s : RawStatement) (L : Rest) → StatementThen s L (x ∷ xs) → ⊥
    no_statement s L a = clash sep
      where
        clash : IsSeparator x.sign → ⊥
        clash (inl e) = first_no begins_statement x looks.Newline e refl (statement_first s L x xs a)
        clash (inr e) = first_no begins_statement x looks.Semi e refl (statement_first s L x xs a)

    after_forth : (raw : RawList) (free : Bool) → After free raw (Closed nested K) (x ∷ xs) → After true raw (Closed nested K) xs
    after_forth none true (inl a) = absurd (not_closed a)
    after_forth none true (inr a) = a.1
    after_forth none false (inl a) = absurd (not_closed a)
    after_forth none false (inr a) = a.1
    after_forth (more s raw) false (inl a) = a.1
    after_forth (more s raw) false (inr a) = a.1
    after_forth (more s raw) true a = front_list s raw (Closed nested K) xs (front (list_front s raw (Closed nested K) (x ∷ xs) a))
      where
        front : SeparatorsThen (StatementThen s (After (ends_in_brace s) raw (Closed nested K))) (x ∷ xs) → SeparatorsThen (StatementThen s (After (ends_in_brace s) raw (Closed nested K))) xs
        front (inl b) = absurd (no_statement s _ b)
        front (inr b) = b.1

    after_back : (raw : RawList) (free : Bool) → After true raw (Closed nested K) xs → After free raw (Closed nested K) (x ∷ xs)
    after_back none true a = inr (sep, a)
    after_back none false a = inr (sep, a)
    after_back (more s raw) true a = front_list s raw (Closed nested K) (x ∷ xs) (inr (sep, list_front s raw (Closed nested K) xs a))
    after_back (more s raw) false a = behind sep
      where
        behind : IsSeparator x.sign → SeparatorThen (ListThen (more s raw) (Closed nested K)) (x ∷ xs)
        behind (inl e) = inl (e, a)
        behind (inr e) = inr (e, a)

-- what is behind a factor, a statement and a target
module _ (x : Symbol) (xs : List Symbol) where
  pub joined_first : (round : Bool) (r : JoinedFill) (K : Onward) → JoinedThen round r K (x ∷ xs) → First after_factor x
  joined_first round (Some c, p) K a = (looks.And, a.0, refl)
  joined_first round (None, Some p) K a = (looks.Or, a.0, refl)
  joined_first true (None, None) K a = (looks.CloseRound, a.0, refl)
  joined_first false (None, None) K a = (looks.Arrow, a.0, refl)

  pub behind_factor : (gs : List Goal) → Behind factor gs → Shaped gs → (rs : Fills gs) (free : Bool) → AllThen gs rs free (x ∷ xs) → First after_factor x
  behind_factor [] b s rs free a = absurd b
  behind_factor (Told joints.Not ∷ gs) b s rs free a = behind_factor gs s.0 s.1 rs.1 free a
  behind_factor (Told joints.And ∷ gs) b s rs free a = behind_factor gs s.0 s.1 rs.1 free a
  behind_factor (Joined levels pending round ∷ gs) b s rs free a = joined_first round rs.0 (AllThen gs rs.1) a
  behind_factor (g ∷ gs) b s rs free a = absurd b

  pub behind_statement : (gs : List Goal) → Behind statement gs → Shaped gs → (rs : Fills gs) → AllThen gs rs false (x ∷ xs) → First after_statement x
  behind_statement [] b s rs a = absurd b
  behind_statement (Told joints.WhenElse ∷ gs) b s rs a = behind_statement gs s.0 s.1 rs.1 a
  behind_statement (Told joints.End ∷ gs) b s rs a = behind_statement gs s.0 s.1 rs.1 a
  behind_statement (Statements levels nested ∷ gs) b s rs a = after_first rs.0 nested (AllThen gs rs.1) x xs a
  behind_statement (g ∷ gs) b s rs a = absurd b

  else_first : (e : Option RawStatement) (K : Onward) → (K false (x ∷ xs) → First after_statement x) → ElseOrEnd e K false (x ∷ xs) → First after_target x
  else_first None K k a = target_of x (k a)
  else_first (Some s) K k (inl a) = (looks.Else, a.0, refl)
  else_first (Some s) K k (inr a) = target_of x (separator_first x a.0)

  pub behind_target : (gs : List Goal) → Behind target gs → Shaped gs → (rs : Fills gs) → AllThen gs rs false (x ∷ xs) → First after_target x
  behind_target [] b s rs a = absurd b
  behind_target (Else levels ∷ gs) b s rs a = else_first rs.0 (AllThen gs rs.1) (behind_statement gs s.0 s.1 rs.1) a
  behind_target (Told joints.WhenElse ∷ gs) b s rs a = target_of x (behind_statement gs s.0 s.1 rs.1 a)
  behind_target (Told joints.End ∷ gs) b s rs a = target_of x (behind_statement gs s.0 s.1 rs.1 a)
  behind_target (Statements levels nested ∷ gs) b s rs a = target_of x (after_first rs.0 nested (AllThen gs rs.1) x xs a)
  behind_target (g ∷ gs) b s rs a = absurd b

  pub statement_no_else : (gs : List Goal) → Behind statement gs → Shaped gs → (rs : Fills gs) (free : Bool) → Shows looks.Else x.sign → AllThen gs rs free (x ∷ xs) → ⊥
  statement_no_else [] b s rs free shows a = absurd b
  statement_no_else (Told joints.WhenElse ∷ gs) b s rs free shows a = statement_no_else gs s.0 s.1 rs.1 free shows a
  statement_no_else (Told joints.End ∷ gs) b s rs free shows a = statement_no_else gs s.0 s.1 rs.1 free shows a
  statement_no_else (Statements levels nested ∷ gs) b s rs free shows a = after_no nested (AllThen gs rs.1) x xs rs.0 free looks.Else shows refl refl a
  statement_no_else (g ∷ gs) b s rs free shows a = absurd b

  pub separated : IsSeparator x.sign → (gs : List Goal) → Behind statement gs → Shaped gs → (rs : Fills gs) (free : Bool) → AllThen gs rs free (x ∷ xs) ↔ AllThen gs rs true xs
  separated sep [] b s rs free = absurd b
  separated sep (Told joints.WhenElse ∷ gs) b s rs free = separated sep gs s.0 s.1 rs.1 free
  separated sep (Told joints.End ∷ gs) b s rs free = separated sep gs s.0 s.1 rs.1 free
  separated sep (Statements levels nested ∷ gs) b s rs free =
      (after_forth nested (AllThen gs rs.1) x xs sep rs.0 free, after_back nested (AllThen gs rs.1) x xs sep rs.0 free)
  separated sep (g ∷ gs) b s rs free = absurd b
