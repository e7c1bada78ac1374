-- The tokens of a predicate.
use Rattle.std.specs.Prelude.{◌≡◌, ℕ, ◌+◌, ◌-◌, ◌<◌, Bool, true, false, Some, None, List, [], ◌∷◌, ◌++◌}
use Rattle.std.proofs.Common.{refl, sym, ◌∙◌, ap, subst, ap₂, arith, append_assoc}
use Rattle.tow_language.specs.declared.token.TokenKind.TheVariants as kinds
use Rattle.tow_language.specs.Raw.{Written, RawCall, RawPredicate, alone, or_more, single, and_more, test, negated, grouped}
use Rattle.tow_language.specs.Symbols.{word, Symbol}
use Rattle.tow_language.specs.Grammar.{Mark, PredicateThen, is_reserved}
use Rattle.tow_language.specs.Levels.{FactorWithin, PredicateWithin, ConjunctionWithin}
use Rattle.tow_fit.specs.declared.call.WrittenText.{WrittenText}
use Rattle.tow_parse.specs.declared.goal.Goal.{Goal}
use Rattle.tow_parse.specs.declared.goal.Goal.TheVariants.{Factor, Joined, Told, Named}
use Rattle.tow_parse.specs.declared.goal.Role.TheVariants.{Test}
use Rattle.tow_parse.specs.declared.goal.Joint.TheVariants as joints
use Rattle.tow_parse.specs.declared.look.Look.{Look}
use Rattle.tow_parse.specs.declared.look.Look.TheVariants.{Not, Name, OpenRound}
use Rattle.tow_fit.specs.Calls.{written_of}
use Rattle.tow_parse.specs.Follows.{Fills, AllThen, AllWithin, Follows, all_parts, call_named}
use Rattle.tow_parse.specs.Looks.{Shows}
use Rattle.tow_parse.specs.Moved.{Turns, Returns, Moved}
use Rattle.tow_parse.specs.Moves.{OneLine}
use Rattle.tow_parse.specs.Parts.{a_test, predicate_parts}
use Rattle.tow_parse.specs.Shape.{Shaped}
use Rattle.tow_parse.proofs.GoesOn.{x_call, call_on, marked, some_on}
use Rattle.tow_parse.proofs.Shown.{same_look}

pub fewer : (n d : ℕ) → 0 < n → (n - 1) + d ≡ (n + d) - 1
fewer n d p = omega arith

module _ (levels : ℕ) (gs : List Goal) (free : Bool) (x : Symbol) where
  -- a `not`
  module _ (then : Bool) (some : 0 < levels) (shows : Shows Not x.sign) where
    abbrev not_goals : List Goal
    not_goals = Factor (levels - 1) ∷ Told joints.Not ∷ gs

    not_forth : (d : ℕ) (xs : List Symbol) → Turns d (Factor levels ∷ gs) free (x ∷ xs) not_goals then xs []
    not_forth d xs (test c, rs) w a = absurd (let e : Not ≡ Name = same_look Not Name x.sign shows (c.name.bytes, a.1.0, a.0) in cc)
    not_forth d xs (negated f, rs) w a = ((f, (tt, rs)), (subst (λ k. FactorWithin k f) (sym (fewer levels d some)) w.0.1, (tt, w.1)), a.1, simp append_assoc)
    not_forth d xs (grouped p, rs) w a = absurd (let e : Not ≡ OpenRound = same_look Not OpenRound x.sign shows a.0 in cc)

    not_back : (d : ℕ) (xs : List Symbol) → Returns d (Factor levels ∷ gs) free (x ∷ xs) not_goals then xs []
    not_back d xs (f, (told, rs)) w a =
        ((negated f, rs), ((omega arith, subst (λ k. FactorWithin k f) (fewer levels d some) w.0), w.1.1), (shows, a), simp append_assoc)

    pub factor_not : Shaped (Factor levels ∷ gs) → Moved (Factor levels ∷ gs) free x not_goals then []
    factor_not shape = record { shaped = (tt, shape); same = λ d xs. record { forth = not_forth d xs; back = not_back d xs } }

  -- a parenthesis
  module _ (then : Bool) (some : 0 < levels) (shows : Shows OpenRound x.sign) where
    abbrev group_goals : List Goal
    group_goals = Factor (levels - 1) ∷ Joined (levels - 1) false true ∷ gs

    group_forth : (d : ℕ) (xs : List Symbol) → Turns d (Factor levels ∷ gs) free (x ∷ xs) group_goals then xs []
    group_forth d xs (test c, rs) w a = absurd (let e : OpenRound ≡ Name = same_look OpenRound Name x.sign shows (c.name.bytes, a.1.0, a.0) in cc)
    group_forth d xs (negated f, rs) w a = absurd (let e : OpenRound ≡ Not = same_look OpenRound Not x.sign shows a.0 in cc)
    group_forth d xs (grouped p, rs) w a = in_group p (subst (λ k. PredicateWithin k p) (sym (fewer levels d some)) w.0.1) a.1
      where
        in_group : (p : RawPredicate) → PredicateWithin ((levels - 1) + d) p → PredicateThen p (Mark kinds.CloseRound (AllThen gs rs false)) xs →
            (ss : Fills group_goals) × AllWithin d group_goals ss × AllThen group_goals ss then xs × (predicate_parts p ++ all_parts gs rs ≡ all_parts group_goals ss)
        in_group (alone (single f)) v b = ((f, ((None, None), rs)), (v, ((tt, tt), w.1)), b, refl)
        in_group (alone (and_more f c)) v b = ((f, ((Some c, None), rs)), (v.0, ((v.1, tt), w.1)), b, simp append_assoc)
        in_group (or_more (single f) q) v b = ((f, ((None, Some q), rs)), (v.0, ((tt, v.1), w.1)), b, simp append_assoc)
        in_group (or_more (and_more f c) q) v b = ((f, ((Some c, Some q), rs)), (v.0.0, ((v.0.1, v.1), w.1)), b, simp append_assoc)

    group_back : (d : ℕ) (xs : List Symbol) → Returns d (Factor levels ∷ gs) free (x ∷ xs) group_goals then xs []
    group_back d xs (f, ((None, None), rs)) w a =
        ((grouped (alone (single f)), rs), ((omega arith, subst (λ k. FactorWithin k f) (fewer levels d some) w.0), w.1.1), (shows, a), refl)
    group_back d xs (f, ((Some c, None), rs)) w a =
        ((grouped (alone (and_more f c)), rs), ((omega arith, (subst (λ k. FactorWithin k f) (fewer levels d some) w.0, subst (λ k. ConjunctionWithin k c) (fewer levels d some) w.1.0.0)), w.1.1), (shows, a), simp append_assoc)
    group_back d xs (f, ((None, Some q), rs)) w a =
        ((grouped (or_more (single f) q), rs), ((omega arith, (subst (λ k. FactorWithin k f) (fewer levels d some) w.0, subst (λ k. PredicateWithin k q) (fewer levels d some) w.1.0.1)), w.1.1), (shows, a), simp append_assoc)
    group_back d xs (f, ((Some c, Some q), rs)) w a =
        ((grouped (or_more (and_more f c) q), rs), ((omega arith, ((subst (λ k. FactorWithin k f) (fewer levels d some) w.0, subst (λ k. ConjunctionWithin k c) (fewer levels d some) w.1.0.0), subst (λ k. PredicateWithin k q) (fewer levels d some) w.1.0.1)), w.1.1), (shows, a), simp append_assoc)

    pub factor_group : Shaped (Factor levels ∷ gs) → Moved (Factor levels ∷ gs) free x group_goals then []
    factor_group shape = record { shaped = (tt, shape); same = λ d xs. record { forth = group_forth d xs; back = group_back d xs } }

  -- the name of a call
  module _ (then : Bool) (name : WrittenText) (reserved : is_reserved name.bytes ≡ false) (sign : x.sign ≡ word name.bytes) (place : x.place ≡ name.place) where
    abbrev test_goals : List Goal
    test_goals = Named Test name ∷ gs

    same_name : (w : Written) → x.sign ≡ word w.bytes → x.place ≡ w.place → w ≡ written_of name
    same_name w e f = ap₂ (λ (b : List ℕ) (p : ℕ). let r : Written = record { bytes = b; place = p } in r) (let g : w.bytes ≡ name.bytes = cc in g) (sym f ∙ place)

    pub test_forth : (d : ℕ) (xs : List Symbol) → Turns d (Factor levels ∷ gs) free (x ∷ xs) test_goals then xs []
    test_forth d xs (test c, rs) w a =
        (((c.parameters, tt), rs), (tt, w.1), a.1.2, ap (λ (k : Written). let r : RawCall = record { name = k; parameters = c.parameters } in a_test r ∷ all_parts gs rs) (same_name c.name a.1.0 a.1.1))
    test_forth d xs (negated f, rs) w a = absurd (let e : Name ≡ Not = same_look Name Not x.sign (name.bytes, sign, reserved) a.0 in cc)
    test_forth d xs (grouped p, rs) w a = absurd (let e : Name ≡ OpenRound = same_look Name OpenRound x.sign (name.bytes, sign, reserved) a.0 in cc)

    test_back : (d : ℕ) (xs : List Symbol) → Returns d (Factor levels ∷ gs) free (x ∷ xs) test_goals then xs []
    test_back d xs ((ps, none), rs) w a = ((test (call_named name ps), rs), (tt, w.1), (reserved, (sign, place, a)), refl)

    pub factor_name : Shaped (Factor levels ∷ gs) → Moved (Factor levels ∷ gs) free x test_goals then []
    factor_name shape = record { shaped = shape; same = λ d xs. record { forth = test_forth d xs; back = test_back d xs } }

  -- any other token
  pub factor_no : (look : Look) → (look ≡ Not → ⊥) → (look ≡ Name → ⊥) → (look ≡ OpenRound → ⊥) → Shows look x.sign → (d : ℕ) (xs : List Symbol) → Follows d (Factor levels ∷ gs) free (x ∷ xs) → ⊥
  factor_no look p q r shows d xs ((test c, rs), w, a) = q (same_look look Name x.sign shows (c.name.bytes, a.1.0, a.0))
  factor_no look p q r shows d xs ((negated f, rs), w, a) = p (same_look look Not x.sign shows a.0)
  factor_no look p q r shows d xs ((grouped g, rs), w, a) = r (same_look look OpenRound x.sign shows a.0)

  -- a level too many
  module _ (none : levels ≡ 0) where
    not_deep : Shows Not x.sign → (xs : List Symbol) → Follows 0 (Factor levels ∷ gs) free (x ∷ xs) → ⊥
    not_deep shows xs ((test c, rs), w, a) = let e : Not ≡ Name = same_look Not Name x.sign shows (c.name.bytes, a.1.0, a.0) in cc
    not_deep shows xs ((negated f, rs), w, a) = let lt = w.0.0 in omega (arith, lt)
    not_deep shows xs ((grouped p, rs), w, a) = let e : Not ≡ OpenRound = same_look Not OpenRound x.sign shows a.0 in cc

    group_deep : Shows OpenRound x.sign → (xs : List Symbol) → Follows 0 (Factor levels ∷ gs) free (x ∷ xs) → ⊥
    group_deep shows xs ((test c, rs), w, a) = let e : OpenRound ≡ Name = same_look OpenRound Name x.sign shows (c.name.bytes, a.1.0, a.0) in cc
    group_deep shows xs ((negated f, rs), w, a) = let e : OpenRound ≡ Not = same_look OpenRound Not x.sign shows a.0 in cc
    group_deep shows xs ((grouped p, rs), w, a) = let lt = w.0.0 in omega (arith, lt)

    pub factor_not_deep : Shows Not x.sign → ((xs : List Symbol) → Follows 0 (Factor levels ∷ gs) free (x ∷ xs) → ⊥) × ((xs : List Symbol) × OneLine xs × Follows 1 (Factor levels ∷ gs) free (x ∷ xs))
    factor_not_deep shows =
        let on = some_on 1 gs false in
        let k = call_on (AllThen gs on.0 false) on.2 in
        (not_deep shows, (k.0, k.1, ((negated (test x_call), on.0), ((omega arith, tt), on.1), (shows, k.2))))

    pub factor_group_deep : Shows OpenRound x.sign → ((xs : List Symbol) → Follows 0 (Factor levels ∷ gs) free (x ∷ xs) → ⊥) × ((xs : List Symbol) × OneLine xs × Follows 1 (Factor levels ∷ gs) free (x ∷ xs))
    factor_group_deep shows =
        let on = some_on 1 gs false in
        let k = call_on (Mark kinds.CloseRound (AllThen gs on.0 false)) (marked kinds.CloseRound (AllThen gs on.0 false) (λ e. cc) on.2) in
        (group_deep shows, (k.0, k.1, ((grouped (alone (single (test x_call))), on.0), ((omega arith, tt), on.1), (shows, k.2))))
