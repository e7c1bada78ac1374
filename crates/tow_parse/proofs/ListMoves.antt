-- The tokens between statements, and behind a predicate's target.
use Rattle.std.specs.Prelude.{◌≡◌, ◌⊎◌, ℕ, ◌-◌, ◌<◌, Bool, true, false, Some, None, List, [], ◌∷◌}
use Rattle.std.proofs.Common.{refl, sym, subst, arith, append_assoc}
use mathlib.Core.Logic.{inl, inr}
use Rattle.tow_language.specs.Raw.{done, act, RawList, none, more}
use Rattle.tow_language.specs.Symbols.{Symbol}
use Rattle.tow_language.specs.Grammar.{Rest, SeparatorsThen, ends_in_brace, StatementThen}
use Rattle.tow_language.specs.Levels.{StatementWithin}
use Rattle.tow_parse.specs.declared.goal.Goal.{Goal}
use Rattle.tow_parse.specs.declared.goal.Goal.TheVariants.{Statements, Statement, Else, Told}
use Rattle.tow_parse.specs.declared.goal.Joint.TheVariants as joints
use Rattle.tow_parse.specs.declared.look.Look.{Look}
use Rattle.tow_parse.specs.declared.look.Look.TheVariants as looks
use Rattle.tow_parse.specs.Follows.{Fills, AllThen, AllWithin, Follows, all_parts, After, Closed}
use Rattle.tow_parse.specs.Looks.{Shows, Sees, waits_else}
use Rattle.tow_parse.specs.Moved.{Turns, Returns, Moved, Passed}
use Rattle.tow_parse.specs.Moves.{OneLine}
use Rattle.tow_parse.specs.Parts.{a_close}
use Rattle.tow_parse.specs.Shape.{Shaped}
use Rattle.tow_parse.proofs.Firsts.{first_no, IsSeparator, begins_statement, after_statement, statement_first, separator_first, after_first, list_front, front_list, behind_statement, separated, statement_no_else}
use Rattle.tow_parse.proofs.GoesOn.{some_on, done_on}
use Rattle.tow_parse.proofs.PredicateMoves.{fewer}
use Rattle.tow_parse.proofs.Shown.{same_look}

-- a closing brace ends the rest of a list
module _ (x : Symbol) (xs : List Symbol) (shows : Shows looks.CloseBrace x.sign) where
  not_separator : IsSeparator x.sign → ⊥
  not_separator (inl e) = let f : looks.CloseBrace ≡ looks.Newline = same_look looks.CloseBrace looks.Newline x.sign shows e in cc
  not_separator (inr e) = let f : looks.CloseBrace ≡ looks.Semi = same_look looks.CloseBrace looks.Semi x.sign shows e in cc

  close_front : (raw : RawList) (free : Bool) (L : Rest) → After free raw L (x ∷ xs) → (raw ≡ none) × L (x ∷ xs)
  close_front none free L (inl a) = (refl, a)
  close_front none free L (inr a) = absurd (not_separator a.0)
  close_front (more s raw) false L (inl a) = absurd (not_separator (inl a.0))
  close_front (more s raw) false L (inr a) = absurd (not_separator (inr a.0))
  close_front (more s raw) true L a = absurd (front (list_front s raw L (x ∷ xs) a))
    where
      front : SeparatorsThen (StatementThen s (After (ends_in_brace s) raw L)) (x ∷ xs) → ⊥
      front (inl b) = first_no begins_statement x looks.CloseBrace shows refl (statement_first s _ x xs b)
      front (inr b) = not_separator b.0

module _ (levels : ℕ) (nested : Bool) (gs : List Goal) (free : Bool) where
  abbrev goals : List Goal
  goals = Statements levels nested ∷ gs

  -- a separator
  pub statements_separator : (x : Symbol) → IsSeparator x.sign → Shaped goals → Moved goals free x goals true []
  statements_separator x sep shape = record {
    shaped = shape;
    same = λ d xs. record {
      forth = λ rs w a. (rs, w, (separated x xs sep goals tt shape rs free).0 a, refl);
      back = λ rs w a. (rs, w, (separated x xs sep goals tt shape rs free).1 a, refl);
    };
  }

  -- the front of a statement
  module _ (look : Look) (off : after_statement look ≡ false) (seen : look ≡ looks.End → ⊥) (is : free ≡ true) where
    abbrev begun_goals : List Goal
    begun_goals = Statement levels false ∷ Told joints.End ∷ goals

    begun_forth : (d : ℕ) (xs : List Symbol) → Sees look xs → Turns d goals true xs begun_goals true xs []
    begun_forth d [] sees rs w a = absurd (seen sees)
    begun_forth d (x ∷ xs) sees (none, rs) w a = absurd (first_no after_statement x look sees off (after_first none nested (AllThen gs rs) x xs a))
    begun_forth d (x ∷ xs) sees (more s raw, rs) w a = front (list_front s raw (Closed nested (AllThen gs rs)) (x ∷ xs) a)
      where
        front : SeparatorsThen (StatementThen s (After (ends_in_brace s) raw (Closed nested (AllThen gs rs)))) (x ∷ xs) →
            (ss : Fills begun_goals) × AllWithin d begun_goals ss × AllThen begun_goals ss true (x ∷ xs) × (all_parts goals (more s raw, rs) ≡ all_parts begun_goals ss)
        front (inl b) = ((s, (tt, (raw, rs))), (w.0.0, (tt, (w.0.1, w.1))), b, simp append_assoc)
        front (inr b) = absurd (first_no after_statement x look sees off (separator_first x b.0))

    begin_separators : (L : Rest) (xs : List Symbol) → L xs → SeparatorsThen L xs
    begin_separators L [] a = a
    begin_separators L (x ∷ xs) a = inl a

    begun_back : (d : ℕ) (xs : List Symbol) → Returns d goals true xs begun_goals true xs []
    begun_back d xs (s, (told, (raw, rs))) w a =
        ((more s raw, rs), ((w.0, w.1.1.0), w.1.1.1), front_list s raw (Closed nested (AllThen gs rs)) xs (begin_separators (StatementThen s (After (ends_in_brace s) raw (Closed nested (AllThen gs rs)))) xs a), simp append_assoc)

    pub statements_begun : Shaped goals → Passed goals free look begun_goals free []
    statements_begun shape = subst (λ k. Passed goals k look begun_goals k []) (sym is) (record {
      shaped = (tt, (tt, shape));
      same = λ d xs sees. record { forth = begun_forth d xs sees; back = begun_back d xs };
    })

  pub statements_no : free ≡ false → (look : Look) (x : Symbol) → Shows look x.sign → after_statement look ≡ false → Shaped goals → (d : ℕ) (xs : List Symbol) → Follows d goals free (x ∷ xs) → ⊥
  statements_no is look x shows off shape d xs (rs, w, a) =
      first_no after_statement x look shows off (behind_statement x xs goals tt shape rs (subst (λ k. AllThen goals rs k (x ∷ xs)) is a))

pub not_after : (look : Look) → (look ≡ looks.Newline → ⊥) → (look ≡ looks.Semi → ⊥) → (look ≡ looks.CloseBrace → ⊥) → after_statement look ≡ false
not_after looks.Newline a b c = absurd (a refl)
not_after looks.Semi a b c = absurd (b refl)
not_after looks.CloseBrace a b c = absurd (c refl)
not_after look a b c = refl

module _ (levels : ℕ) (gs : List Goal) (free : Bool) (x : Symbol) (shows : Shows looks.CloseBrace x.sign) where
  closed_forth : (d : ℕ) (xs : List Symbol) → Turns d (Statements levels true ∷ gs) free (x ∷ xs) gs true xs (a_close ∷ [])
  closed_forth d xs (none, rs) w a = let c = close_front x xs shows none free (Closed true (AllThen gs rs)) a in (rs, w.1, c.1.1, refl)
  closed_forth d xs (more s raw, rs) w a = absurd (let c = close_front x xs shows (more s raw) free (Closed true (AllThen gs rs)) a in let e = c.0 in cc)

  pub statements_closed : Shaped (Statements levels true ∷ gs) → Moved (Statements levels true ∷ gs) free x gs true (a_close ∷ [])
  statements_closed shape = record {
    shaped = shape.1;
    same = λ d xs. record { forth = closed_forth d xs; back = λ rs w a. ((none, rs), (tt, w), inl (shows, a), refl) };
  }

  pub statements_not_closed : (d : ℕ) (xs : List Symbol) → Follows d (Statements levels false ∷ gs) free (x ∷ xs) → ⊥
  statements_not_closed d xs ((raw, rs), w, a) = let c = close_front x xs shows raw free (Closed false (AllThen gs rs)) a in let e = c.1 in cc

-- an `else`, or a separator before one or behind the statement
module _ (levels : ℕ) (gs : List Goal) (free : Bool) (x : Symbol) where
  -- a separator
  module _ (sep : IsSeparator x.sign) (shape : Shaped (Else levels ∷ gs)) where
    not_else : Shows looks.Else x.sign → ⊥
    not_else e = clash sep
      where
        clash : IsSeparator x.sign → ⊥
        clash (inl f) = let g : looks.Else ≡ looks.Newline = same_look looks.Else looks.Newline x.sign e f in cc
        clash (inr f) = let g : looks.Else ≡ looks.Semi = same_look looks.Else looks.Semi x.sign e f in cc

    apart_forth : (d : ℕ) (xs : List Symbol) → Turns d (Else levels ∷ gs) free (x ∷ xs) (Else levels ∷ gs) true xs []
    apart_forth d xs (None, rs) w a = ((None, rs), w, (separated x xs sep gs shape.0 shape.1 rs free).0 a, refl)
    apart_forth d xs (Some s, rs) w (inl a) = absurd (not_else a.0)
    apart_forth d xs (Some s, rs) w (inr a) = ((Some s, rs), w, a.1, refl)

    apart_back : (d : ℕ) (xs : List Symbol) → Returns d (Else levels ∷ gs) free (x ∷ xs) (Else levels ∷ gs) true xs []
    apart_back d xs (None, rs) w a = ((None, rs), w, (separated x xs sep gs shape.0 shape.1 rs free).1 a, refl)
    apart_back d xs (Some s, rs) w a = ((Some s, rs), w, inr (sep, a), refl)

    pub else_separator : Moved (Else levels ∷ gs) free x (Else levels ∷ gs) true []
    else_separator = record { shaped = shape; same = λ d xs. record { forth = apart_forth d xs; back = apart_back d xs } }

  -- an `else`
  module _ (shows : Shows looks.Else x.sign) (shape : Shaped (Else levels ∷ gs)) where
    no_separator : IsSeparator x.sign → ⊥
    no_separator (inl f) = let g : looks.Else ≡ looks.Newline = same_look looks.Else looks.Newline x.sign shows f in cc
    no_separator (inr f) = let g : looks.Else ≡ looks.Semi = same_look looks.Else looks.Semi x.sign shows f in cc

    abbrev else_goals : List Goal
    else_goals = Statement (levels - 1) true ∷ Told joints.WhenElse ∷ gs

    else_forth : 0 < levels → (d : ℕ) (xs : List Symbol) → Turns d (Else levels ∷ gs) free (x ∷ xs) else_goals free xs []
    else_forth some d xs (None, rs) w a = absurd (statement_no_else x xs gs shape.0 shape.1 rs free shows a)
    else_forth some d xs (Some s, rs) w (inl a) = ((s, (tt, rs)), (subst (λ k. StatementWithin k s) (sym (fewer levels d some)) w.0.1, (tt, w.1)), a.1, simp append_assoc)
    else_forth some d xs (Some s, rs) w (inr a) = absurd (no_separator a.0)

    else_back : 0 < levels → (d : ℕ) (xs : List Symbol) → Returns d (Else levels ∷ gs) free (x ∷ xs) else_goals free xs []
    else_back some d xs (s, (told, rs)) w a =
        ((Some s, rs), ((omega arith, subst (λ k. StatementWithin k s) (fewer levels d some) w.0), w.1.1), inl (shows, a), simp append_assoc)

    pub else_begun : 0 < levels → Moved (Else levels ∷ gs) free x else_goals free []
    else_begun some = record { shaped = (tt, shape); same = λ d xs. record { forth = else_forth some d xs; back = else_back some d xs } }

    deep_no : levels ≡ 0 → (xs : List Symbol) → Follows 0 (Else levels ∷ gs) free (x ∷ xs) → ⊥
    deep_no deep xs ((None, rs), w, a) = statement_no_else x xs gs shape.0 shape.1 rs free shows a
    deep_no deep xs ((Some s, rs), w, a) = let lt = w.0.0 in omega (arith, lt)

    pub else_deep : levels ≡ 0 → ((xs : List Symbol) → Follows 0 (Else levels ∷ gs) free (x ∷ xs) → ⊥) × ((xs : List Symbol) × OneLine xs × Follows 1 (Else levels ∷ gs) free (x ∷ xs))
    else_deep deep =
        let on = some_on 1 gs false in
        let k = done_on (AllThen gs on.0 false) on.2 in
        (deep_no deep, (k.0, k.1, ((Some (act done), on.0), ((omega arith, tt), on.1), inl (shows, inl k.2))))

pub closed_taken : (levels : ℕ) (nested : Bool) (gs : List Goal) (free : Bool) (x : Symbol) → Shows looks.CloseBrace x.sign → nested ≡ true → Shaped (Statements levels nested ∷ gs) →
    Moved (Statements levels nested ∷ gs) free x gs true (a_close ∷ [])
closed_taken levels true gs free x shows is shape = statements_closed levels gs free x shows shape
closed_taken levels false gs free x shows is shape = absurd cc

pub closed_refused : (levels : ℕ) (nested : Bool) (gs : List Goal) (free : Bool) (x : Symbol) → Shows looks.CloseBrace x.sign → nested ≡ false → (d : ℕ) (xs : List Symbol) → Follows d (Statements levels nested ∷ gs) free (x ∷ xs) → ⊥
closed_refused levels true gs free x shows is d xs a = absurd cc
closed_refused levels false gs free x shows is d xs a = statements_not_closed levels gs free x shows d xs a

pub separator_either : (look : Look) (x : Symbol) → Shows look x.sign → (look ≡ looks.Newline) ⊎ (look ≡ looks.Semi) → IsSeparator x.sign
separator_either look x shows (inl e) = inl (subst (λ k. Shows k x.sign) e shows)
separator_either look x shows (inr e) = inr (subst (λ k. Shows k x.sign) e shows)

pub separator_of : (look : Look) (x : Symbol) → Shows look x.sign → waits_else look ≡ true → (look ≡ looks.Else → ⊥) → IsSeparator x.sign
separator_of looks.Newline x shows on off = inl shows
separator_of looks.Semi x shows on off = inr shows
separator_of looks.Else x shows on off = absurd (off refl)
separator_of look x shows on off = absurd cc
