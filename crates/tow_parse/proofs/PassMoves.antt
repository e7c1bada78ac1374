-- The goals that are over before a token.
use Rattle.std.specs.Prelude.{◌≡◌, ℕ, Bool, true, false, Some, None, List, [], ◌∷◌, ◌++◌, codes}
use Rattle.std.proofs.Common.{refl, sym, ◌∙◌, ap, append_assoc}
use mathlib.Core.Logic.{inl, inr}
use Rattle.tow_language.specs.Raw.{RawParameters, unnamed, RawStatement}
use Rattle.tow_language.specs.Symbols.{Symbol}
use Rattle.tow_language.specs.Grammar.{Rest, Keyword, SeparatorsThen, BracketsThen, TargetThen, is_block}
use Rattle.tow_fit.specs.declared.call.Call.{Call}
use Rattle.tow_fit.specs.declared.call.WrittenText.{WrittenText}
use Rattle.tow_parse.specs.declared.goal.Goal.{Goal}
use Rattle.tow_parse.specs.declared.goal.Goal.TheVariants.{Joined, Target, Else, Told, Called, Named}
use Rattle.tow_parse.specs.declared.goal.Joint.{Joint}
use Rattle.tow_parse.specs.declared.goal.Role.TheVariants.{Test, Handler, Front}
use Rattle.tow_parse.specs.declared.look.Look.{Look}
use Rattle.tow_parse.specs.declared.look.Look.TheVariants as looks
use Rattle.tow_fit.specs.Calls.{call_of}
use Rattle.tow_parse.specs.Follows.{Onward, Fills, AllThen, all_parts, JoinedFill, JoinedThen, ElseOrEnd, front_parts, call_named, told_part}
use Rattle.tow_parse.specs.Looks.{Shows, Sees, waits_else, opens, joins}
use Rattle.tow_parse.specs.Moved.{Turns, Returns, Passed}
use Rattle.tow_parse.specs.Parts.{a_test, a_handler, a_when}
use Rattle.tow_parse.specs.Shape.{Shaped}
use Rattle.tow_parse.proofs.Firsts.{First, behind_statement, after_statement, IsSeparator}
use Rattle.tow_parse.proofs.Shown.{same_look}

-- no symbols begin with a keyword
sees_at : (look : Look) (x : Symbol) (seen : Look) → Shows look x.sign → Shows seen x.sign → (f : Look → Bool) → f look ≡ false → f seen ≡ true → ⊥
sees_at look x seen p q f off on = let e : true ≡ false = sym on ∙ ap f (same_look seen look x.sign q p) ∙ off in cc

module _ (gs : List Goal) (free : Bool) (look : Look) where
  pub told_passed : (joint : Joint) → Shaped (Told joint ∷ gs) → Passed (Told joint ∷ gs) free look gs free (told_part joint ∷ [])
  told_passed joint shape = record {
    shaped = shape.1;
    same = λ d xs sees. record {
      forth = λ rs w a. (rs.1, w.1, a, refl);
      back = λ rs w a. ((tt, rs), (tt, w), a, refl);
    };
  }

  -- no `else`
  module _ (levels : ℕ) (off : waits_else look ≡ false) where
    no_else : (s : RawStatement) (L : Rest) (xs : List Symbol) → Sees look xs → SeparatorsThen (Keyword (codes "else") L) xs → ⊥
    no_else s L [] sees a = a
    no_else s L (x ∷ xs) sees (inl a) = sees_at look x looks.Else sees a.0 waits_else off refl
    no_else s L (x ∷ xs) sees (inr a) = separator a.0
      where
        separator : IsSeparator x.sign → ⊥
        separator (inl e) = sees_at look x looks.Newline sees e waits_else off refl
        separator (inr e) = sees_at look x looks.Semi sees e waits_else off refl

    else_forth : (d : ℕ) (xs : List Symbol) → Sees look xs → Turns d (Else levels ∷ gs) free xs gs free xs (a_when ∷ [])
    else_forth d xs sees (None, rs) w a = (rs, w.1, a, refl)
    else_forth d xs sees (Some s, rs) w a = absurd (no_else s _ xs sees a)

    pub else_passed : Shaped (Else levels ∷ gs) → Passed (Else levels ∷ gs) free look gs free (a_when ∷ [])
    else_passed shape = record {
      shaped = shape.1;
      same = λ d xs sees. record { forth = else_forth d xs sees; back = λ rs w a. ((None, rs), (tt, w), a, refl) };
    }

  -- a call at the front of a statement
  module _ (levels : ℕ) (call : Call) where
    joined_joins : (r : JoinedFill) (K : Onward) (xs : List Symbol) → Sees look xs → JoinedThen false r K xs → joins look ≡ true
    joined_joins (Some c, p) K [] sees a = absurd a
    joined_joins (None, Some p) K [] sees a = absurd a
    joined_joins (None, None) K [] sees a = absurd a
    joined_joins (Some c, p) K (x ∷ xs) sees a = ap joins (same_look look looks.And x.sign sees a.0)
    joined_joins (None, Some p) K (x ∷ xs) sees a = ap joins (same_look look looks.Or x.sign sees a.0)
    joined_joins (None, None) K (x ∷ xs) sees a = ap joins (same_look look looks.Arrow x.sign sees a.0)

    handler_forth : joins look ≡ false → (d : ℕ) (xs : List Symbol) → Sees look xs → Turns d (Called levels call ∷ gs) free xs gs false xs (a_handler (call_of call) ∷ [])
    handler_forth off d xs sees (None, rs) w a = (rs, w.1, a, refl)
    handler_forth off d xs sees (Some f, rs) w a = absurd (let e : true ≡ false = sym (joined_joins f.0 (λ then. TargetThen f.1 (ElseOrEnd f.2 (AllThen gs rs) (is_block f.1))) xs sees a) ∙ off in cc)

    pub handler_passed : joins look ≡ false → Shaped (Called levels call ∷ gs) → Passed (Called levels call ∷ gs) free look gs false (a_handler (call_of call) ∷ [])
    handler_passed off shape = record {
      shaped = shape.1;
      same = λ d xs sees. record { forth = handler_forth off d xs sees; back = λ rs w a. ((None, rs), (tt, w), a, refl) };
    }

    abbrev test_goals : List Goal
    test_goals = Joined levels false false ∷ Target levels ∷ Else levels ∷ gs

    not_over : joins look ≡ true → Shaped (Called levels call ∷ gs) → (rs : Fills gs) (xs : List Symbol) → Sees look xs → AllThen gs rs false xs → ⊥
    not_over on shape rs [] sees a = let e : true ≡ false = sym on ∙ ap joins sees in cc
    not_over on shape rs (x ∷ xs) sees a = over (behind_statement x xs gs shape.0 shape.1 rs a)
      where
        over : First after_statement x → ⊥
        over (looks.Newline, s, e) = sees_at looks.Newline x look s sees joins refl on
        over (looks.Semi, s, e) = sees_at looks.Semi x look s sees joins refl on
        over (looks.CloseBrace, s, e) = sees_at looks.CloseBrace x look s sees joins refl on
        over (other, s, e) = cc

    test_forth : joins look ≡ true → Shaped (Called levels call ∷ gs) → (d : ℕ) (xs : List Symbol) → Sees look xs →
        Turns d (Called levels call ∷ gs) free xs test_goals false xs (a_test (call_of call) ∷ [])
    test_forth on shape d xs sees (None, rs) w a = absurd (not_over on shape rs xs sees a)
    test_forth on shape d xs sees (Some (r, t, e), rs) w a = ((r, (t, (e, rs))), (w.0.0, (w.0.1, (w.0.2, w.1))), a, simp append_assoc)

    test_back : (d : ℕ) (xs : List Symbol) → Returns d (Called levels call ∷ gs) free xs test_goals false xs (a_test (call_of call) ∷ [])
    test_back d xs (r, (t, (e, rs))) w a = ((Some (r, t, e), rs), ((w.0, w.1.0, w.1.1.0), w.1.1.1), a, simp append_assoc)

    pub test_passed : joins look ≡ true → Shaped (Called levels call ∷ gs) → Passed (Called levels call ∷ gs) free look test_goals false (a_test (call_of call) ∷ [])
    test_passed on shape = record {
      shaped = (tt, (tt, shape));
      same = λ d xs sees. record { forth = test_forth on shape d xs sees; back = test_back d xs };
    }

  -- a call without brackets
  module _ (name : WrittenText) (off : opens look ≡ false) where
    brackets_over : (ps : RawParameters) (L : Rest) (xs : List Symbol) → Sees look xs → BracketsThen ps L xs → (ps ≡ unnamed []) × L xs
    brackets_over ps L xs sees (inl a) = a
    brackets_over ps L [] sees (inr (inl a)) = absurd a
    brackets_over ps L [] sees (inr (inr a)) = absurd a
    brackets_over ps L (x ∷ xs) sees (inr (inl a)) = absurd (sees_at look x looks.OpenRound sees a.0 opens off refl)
    brackets_over ps L (x ∷ xs) sees (inr (inr a)) = absurd (sees_at look x looks.OpenSquare sees a.0 opens off refl)

    pub test_named : Shaped (Named Test name ∷ gs) → Passed (Named Test name ∷ gs) free look gs false (a_test (call_named name (unnamed [])) ∷ [])
    test_named shape = record { shaped = shape.1; same = λ d xs sees. record { forth = forth d xs sees; back = λ rs w a. (((unnamed [], tt), rs), (tt, w), inl (refl, a), refl) } }
      where
        forth : (d : ℕ) (xs : List Symbol) → Sees look xs → Turns d (Named Test name ∷ gs) free xs gs false xs (a_test (call_named name (unnamed [])) ∷ [])
        forth d xs sees ((ps, r), rs) w a = let b = brackets_over ps _ xs sees a in (rs, w.1, b.1, ap (λ k. a_test (call_named name k) ∷ all_parts gs rs) b.0)

    pub handler_named : Shaped (Named Handler name ∷ gs) → Passed (Named Handler name ∷ gs) free look gs false (a_handler (call_named name (unnamed [])) ∷ [])
    handler_named shape = record { shaped = shape.1; same = λ d xs sees. record { forth = forth d xs sees; back = λ rs w a. (((unnamed [], tt), rs), (tt, w), inl (refl, a), refl) } }
      where
        forth : (d : ℕ) (xs : List Symbol) → Sees look xs → Turns d (Named Handler name ∷ gs) free xs gs false xs (a_handler (call_named name (unnamed [])) ∷ [])
        forth d xs sees ((ps, r), rs) w a = let b = brackets_over ps _ xs sees a in (rs, w.1, b.1, ap (λ k. a_handler (call_named name k) ∷ all_parts gs rs) b.0)

    pub front_named : (levels : ℕ) (call : Call) → call_of call ≡ call_named name (unnamed []) → Shaped (Named (Front levels) name ∷ gs) →
        Passed (Named (Front levels) name ∷ gs) free look (Called levels call ∷ gs) free []
    front_named levels call made shape = record { shaped = shape; same = λ d xs sees. record { forth = forth d xs sees; back = back d xs } }
      where
        forth : (d : ℕ) (xs : List Symbol) → Sees look xs → Turns d (Named (Front levels) name ∷ gs) free xs (Called levels call ∷ gs) free xs []
        forth d xs sees ((ps, r), rs) w a =
            let b = brackets_over ps _ xs sees a in
            ((r, rs), w, b.1, ap (λ k. front_parts k r ++ all_parts gs rs) (ap (call_named name) b.0 ∙ sym made))

        back : (d : ℕ) (xs : List Symbol) → Returns d (Named (Front levels) name ∷ gs) free xs (Called levels call ∷ gs) free xs []
        back d xs (r, rs) w a = (((unnamed [], r), rs), w, inl (refl, a), ap (λ k. front_parts k r ++ all_parts gs rs) (sym made))
