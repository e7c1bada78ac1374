-- The tokens between statements, at the front of one, and behind a predicate's target.
use Rattle.std.specs.Prelude.{◌≡◌, ◌⊎◌, ℕ, ◌+◌, Bool, true, false, Some, None, List, [], ◌∷◌, ◌++◌}
use Rattle.std.proofs.Common.{refl, sym, ◌∙◌, ap, subst, append_assoc}
use Rattle.std.proofs.lemmas.List.{append-nil}
use mathlib.Core.Logic.{inl, inr}
use Rattle.tow_language.specs.declared.token.TokenKind.TheVariants as kinds
use Rattle.tow_language.specs.Raw.{Written, RawCall, RawPredicate, alone, or_more, single, and_more, RawFactor, test, negated, grouped, RawTarget, handler, restart, done, block, RawStatement, act, when, when_else}
use Rattle.tow_language.specs.Symbols.{word, mark, Symbol}
use Rattle.tow_language.specs.Grammar.{Rest, FactorThen, PredicateThen, is_reserved, is_block, ends_in_brace, StatementThen, TargetThen}
use Rattle.tow_language.specs.Levels.{PredicateWithin, FactorWithin}
use Rattle.tow_fit.specs.declared.call.WrittenText.{WrittenText}
use Rattle.tow_parse.specs.declared.goal.Goal.{Goal}
use Rattle.tow_parse.specs.declared.goal.Goal.TheVariants.{Statement, Factor, Joined, Target, Else, Named}
use Rattle.tow_parse.specs.declared.goal.Role.TheVariants.{Test, Front}
use Rattle.tow_parse.specs.declared.look.Look.{Look}
use Rattle.tow_parse.specs.declared.look.Look.TheVariants as looks
use Rattle.tow_parse.specs.Follows.{JoinedFill, JoinedWithin, joined_parts, AndThen, OrThen, Fills, AllThen, AllWithin, Follows, all_parts, call_named, MaybeThen}
use Rattle.tow_parse.specs.Looks.{Shows, Sees}
use Rattle.tow_parse.specs.Moved.{Turns, Returns, Moved, Passed}
use Rattle.tow_parse.specs.Parts.{a_handler, a_when, a_when_else, predicate_parts, factor_parts, target_parts, statement_parts}
use Rattle.tow_parse.specs.Shape.{Stage, factor, predicate, target, statement, front, Suits, stage_of, Behind, Shaped}
use Rattle.tow_parse.proofs.Firsts.{first_no, begins_statement, statement_first}
use Rattle.tow_parse.proofs.PredicateMoves.{test_forth}
use Rattle.tow_parse.proofs.TargetMoves.{one_written}
use Rattle.tow_parse.proofs.Shown.{same_look}

-- a predicate is its first factor and what is joined to it
abbrev first_of : RawPredicate → RawFactor
first_of (alone (single f)) = f
first_of (alone (and_more f c)) = f
first_of (or_more (single f) p) = f
first_of (or_more (and_more f c) p) = f

abbrev others_of : RawPredicate → JoinedFill
others_of (alone (single f)) = (None, None)
others_of (alone (and_more f c)) = (Some c, None)
others_of (or_more (single f) p) = (None, Some p)
others_of (or_more (and_more f c) p) = (Some c, Some p)

abbrev joined_of : RawFactor → JoinedFill → RawPredicate
joined_of f (None, None) = alone (single f)
joined_of f (Some c, None) = alone (and_more f c)
joined_of f (None, Some p) = or_more (single f) p
joined_of f (Some c, Some p) = or_more (and_more f c) p

split_then : (p : RawPredicate) (L : Rest) (xs : List Symbol) → PredicateThen p L xs → FactorThen (first_of p) (AndThen (others_of p).0 (OrThen (others_of p).1 L)) xs
split_then (alone (single f)) L xs a = a
split_then (alone (and_more f c)) L xs a = a
split_then (or_more (single f) p) L xs a = a
split_then (or_more (and_more f c) p) L xs a = a

join_then : (f : RawFactor) (r : JoinedFill) (L : Rest) (xs : List Symbol) → FactorThen f (AndThen r.0 (OrThen r.1 L)) xs → PredicateThen (joined_of f r) L xs
join_then f (None, None) L xs a = a
join_then f (Some c, None) L xs a = a
join_then f (None, Some p) L xs a = a
join_then f (Some c, Some p) L xs a = a

split_within : (n : ℕ) (p : RawPredicate) → PredicateWithin n p → FactorWithin n (first_of p) × JoinedWithin n (others_of p)
split_within n (alone (single f)) w = (w, (tt, tt))
split_within n (alone (and_more f c)) w = (w.0, (w.1, tt))
split_within n (or_more (single f) p) w = (w.0, (tt, w.1))
split_within n (or_more (and_more f c) p) w = (w.0.0, (w.0.1, w.1))

join_within : (n : ℕ) (f : RawFactor) (r : JoinedFill) → FactorWithin n f → JoinedWithin n r → PredicateWithin n (joined_of f r)
join_within n f (None, None) w v = w
join_within n f (Some c, None) w v = (w, v.0)
join_within n f (None, Some p) w v = (w, v.1)
join_within n f (Some c, Some p) w v = ((w, v.0), v.1)

split_parts : (p : RawPredicate) → predicate_parts p ≡ factor_parts (first_of p) ++ joined_parts false (others_of p)
split_parts (alone (single f)) = sym (append-nil (factor_parts f))
split_parts (alone (and_more f c)) = simp append-nil
split_parts (or_more (single f) p) = refl
split_parts (or_more (and_more f c) p) = simp append_assoc

join_parts : (f : RawFactor) (r : JoinedFill) → predicate_parts (joined_of f r) ≡ factor_parts f ++ joined_parts false r
join_parts f (None, None) = sym (append-nil (factor_parts f))
join_parts f (Some c, None) = simp append-nil
join_parts f (None, Some p) = refl
join_parts f (Some c, Some p) = simp append_assoc

-- the looks that begin a predicate and no target, and those that begin a target and no predicate
abbrev pub begins_predicate : Look → Bool
begins_predicate looks.Not = true
begins_predicate looks.OpenRound = true
begins_predicate look = false

abbrev pub begins_target : Look → Bool
begins_target looks.Restart = true
begins_target looks.Done = true
begins_target looks.OpenBrace = true
begins_target look = false

module _ (look : Look) (x : Symbol) (shows : Shows look x.sign) where
  differs : (f : Look → Bool) (seen : Look) → f look ≡ true → Shows seen x.sign → f seen ≡ false → ⊥
  differs f seen on s off = let e : true ≡ false = sym on ∙ ap f (same_look look seen x.sign shows s) ∙ off in cc

  not_target : begins_predicate look ≡ true → (t : RawTarget) (L : Rest) (xs : List Symbol) → TargetThen t L (x ∷ xs) → ⊥
  not_target on (handler c) L xs a = differs begins_predicate looks.Name on (c.name.bytes, a.1.0, a.0) refl
  not_target on restart L xs a = differs begins_predicate looks.Restart on a.0 refl
  not_target on done L xs a = differs begins_predicate looks.Done on a.0 refl
  not_target on (block raw) L xs a = differs begins_predicate looks.OpenBrace on a.0 refl

  not_factor : begins_target look ≡ true → (f : RawFactor) (L : Rest) (xs : List Symbol) → FactorThen f L (x ∷ xs) → ⊥
  not_factor on (test c) L xs a = differs begins_target looks.Name on (c.name.bytes, a.1.0, a.0) refl
  not_factor on (negated f) L xs a = differs begins_target looks.Not on a.0 refl
  not_factor on (grouped p) L xs a = differs begins_target looks.OpenRound on a.0 refl

  not_arrow : (look ≡ looks.Arrow → ⊥) → x.sign ≡ mark kinds.Arrow → ⊥
  not_arrow off e = off (same_look look looks.Arrow x.sign shows e)

unarrow : (arrow : Bool) (L : Rest) (x : Symbol) (xs : List Symbol) → (x.sign ≡ mark kinds.Arrow → ⊥) → MaybeThen arrow L (x ∷ xs) → L (x ∷ xs)
unarrow true L x xs off (inl a) = a
unarrow true L x xs off (inr a) = absurd (off a.0)
unarrow false L x xs off a = a

arrowed : (arrow : Bool) (L : Rest) (xs : List Symbol) → L xs → MaybeThen arrow L xs
arrowed true L xs a = inl a
arrowed false L xs a = a

suits : (s : Stage) → Suits statement s → Suits target s
suits factor b = absurd b
suits predicate b = absurd b
suits target b = absurd b
suits statement b = tt
suits front b = absurd b

target_behind : (gs : List Goal) → Behind statement gs → Behind target gs
target_behind [] b = absurd b
target_behind (g ∷ gs) b = suits (stage_of g) b

abbrev is_name : Look → Bool
is_name looks.Name = true
is_name look = false

abbrev when_goals : ℕ → List Goal → List Goal
when_goals levels gs = Factor levels ∷ Joined levels false false ∷ Target levels ∷ Else levels ∷ gs

-- a statement that begins with a predicate
module _ (levels : ℕ) (arrow : Bool) (gs : List Goal) (free : Bool) (d : ℕ) (zs : List Symbol) where
  when_turn : (p : RawPredicate) (t : RawTarget) (rs : Fills gs) → AllWithin d (Statement levels arrow ∷ gs) (when p t, rs) → StatementThen (when p t) (AllThen gs rs (is_block t)) zs →
      (ss : Fills (when_goals levels gs)) × AllWithin d (when_goals levels gs) ss × AllThen (when_goals levels gs) ss free zs × (statement_parts (when p t) ++ all_parts gs rs ≡ all_parts (when_goals levels gs) ss)
  when_turn p t rs w a =
      let v = split_within (levels + d) p w.0.0 in (
        (first_of p, (others_of p, (t, (None, rs)))),
        (v.0, (v.1, (w.0.1, (tt, w.1)))),
        split_then p _ zs a,
        ap (λ k. (k ++ (target_parts t ++ a_when ∷ [])) ++ all_parts gs rs) (split_parts p) ∙ simp append_assoc,
      )

  else_turn : (p : RawPredicate) (t : RawTarget) (s : RawStatement) (rs : Fills gs) → AllWithin d (Statement levels arrow ∷ gs) (when_else p t s, rs) → StatementThen (when_else p t s) (AllThen gs rs (ends_in_brace s)) zs →
      (ss : Fills (when_goals levels gs)) × AllWithin d (when_goals levels gs) ss × AllThen (when_goals levels gs) ss free zs × (statement_parts (when_else p t s) ++ all_parts gs rs ≡ all_parts (when_goals levels gs) ss)
  else_turn p t s rs w a =
      let v = split_within (levels + d) p w.0.0 in (
        (first_of p, (others_of p, (t, (Some s, rs)))),
        (v.0, (v.1, (w.0.1, ((w.0.2, w.0.3), w.1)))),
        split_then p _ zs a,
        ap (λ k. (k ++ (target_parts t ++ (statement_parts s ++ a_when_else ∷ []))) ++ all_parts gs rs) (split_parts p) ∙ simp append_assoc,
      )

  when_back : Returns d (Statement levels arrow ∷ gs) free zs (when_goals levels gs) free zs []
  when_back (f, (r, (t, (None, rs)))) w a = (
    (when (joined_of f r) t, rs),
    ((join_within (levels + d) f r w.0 w.1.0, w.1.1.0), w.1.1.1.1),
    arrowed arrow _ zs (join_then f r _ zs a),
    ap (λ k. (k ++ (target_parts t ++ a_when ∷ [])) ++ all_parts gs rs) (join_parts f r) ∙ simp append_assoc,
  )
  when_back (f, (r, (t, (Some s, rs)))) w a = (
    (when_else (joined_of f r) t s, rs),
    ((join_within (levels + d) f r w.0 w.1.0, w.1.1.0, w.1.1.1.0.0, w.1.1.1.0.1), w.1.1.1.1),
    arrowed arrow _ zs (join_then f r _ zs a),
    ap (λ k. (k ++ (target_parts t ++ (statement_parts s ++ a_when_else ∷ []))) ++ all_parts gs rs) (join_parts f r) ∙ simp append_assoc,
  )

module _ (levels : ℕ) (arrow : Bool) (gs : List Goal) (free : Bool) where
  abbrev goals : List Goal
  goals = Statement levels arrow ∷ gs

  -- a `not` or a parenthesis
  module _ (look : Look) (on : begins_predicate look ≡ true) where
    no_end : look ≡ looks.End → ⊥
    no_end e = let f : true ≡ false = sym on ∙ ap begins_predicate e in cc

    no_arrow : look ≡ looks.Arrow → ⊥
    no_arrow e = let f : true ≡ false = sym on ∙ ap begins_predicate e in cc

    predicate_forth : (d : ℕ) (xs : List Symbol) → Sees look xs → Turns d goals free xs (when_goals levels gs) free xs []
    predicate_forth d [] sees rs w a = absurd (no_end sees)
    predicate_forth d (x ∷ xs) sees (act t, rs) w a =
        absurd (not_target look x sees on t _ xs (unarrow arrow _ x xs (not_arrow look x sees no_arrow) a))
    predicate_forth d (x ∷ xs) sees (when p t, rs) w a = when_turn levels arrow gs free d (x ∷ xs) p t rs w (unarrow arrow _ x xs (not_arrow look x sees no_arrow) a)
    predicate_forth d (x ∷ xs) sees (when_else p t s, rs) w a = else_turn levels arrow gs free d (x ∷ xs) p t s rs w (unarrow arrow _ x xs (not_arrow look x sees no_arrow) a)

    pub statement_predicate : Shaped goals → Passed goals free look (when_goals levels gs) free []
    statement_predicate shape = record {
      shaped = (tt, (tt, (tt, shape)));
      same = λ d xs sees. record { forth = predicate_forth d xs sees; back = when_back levels arrow gs free d xs };
    }

  -- `restart`, `done` or a block
  module _ (look : Look) (on : begins_target look ≡ true) where
    end_no : look ≡ looks.End → ⊥
    end_no e = let f : true ≡ false = sym on ∙ ap begins_target e in cc

    arrow_no : look ≡ looks.Arrow → ⊥
    arrow_no e = let f : true ≡ false = sym on ∙ ap begins_target e in cc

    target_forth : (d : ℕ) (xs : List Symbol) → Sees look xs → Turns d goals free xs (Target levels ∷ gs) free xs []
    target_forth d [] sees rs w a = absurd (end_no sees)
    target_forth d (x ∷ xs) sees (act t, rs) w a = ((t, rs), w, unarrow arrow _ x xs (not_arrow look x sees arrow_no) a, refl)
    target_forth d (x ∷ xs) sees (when p t, rs) w a =
        absurd (not_factor look x sees on (first_of p) _ xs (split_then p _ (x ∷ xs) (unarrow arrow _ x xs (not_arrow look x sees arrow_no) a)))
    target_forth d (x ∷ xs) sees (when_else p t s, rs) w a =
        absurd (not_factor look x sees on (first_of p) _ xs (split_then p _ (x ∷ xs) (unarrow arrow _ x xs (not_arrow look x sees arrow_no) a)))

    target_back : (d : ℕ) (xs : List Symbol) → Returns d goals free xs (Target levels ∷ gs) free xs []
    target_back d xs (t, rs) w a = ((act t, rs), w, arrowed arrow _ xs a, refl)

    pub statement_target : Shaped goals → Passed goals free look (Target levels ∷ gs) free []
    statement_target shape = record {
      shaped = (target_behind gs shape.0, shape.1);
      same = λ d xs sees. record { forth = target_forth d xs sees; back = target_back d xs };
    }

  -- an Arrow
  arrow_forth : (x : Symbol) → Shows looks.Arrow x.sign → arrow ≡ true → (d : ℕ) (xs : List Symbol) → Turns d goals free (x ∷ xs) (Statement levels false ∷ gs) free xs []
  arrow_forth x shows is d xs (s, rs) w a = ((s, rs), w, behind (subst (λ k. MaybeThen k (StatementThen s (AllThen gs rs (ends_in_brace s))) (x ∷ xs)) is a), refl)
    where
      behind : MaybeThen true (StatementThen s (AllThen gs rs (ends_in_brace s))) (x ∷ xs) → StatementThen s (AllThen gs rs (ends_in_brace s)) xs
      behind (inl b) = absurd (first_no begins_statement x looks.Arrow shows refl (statement_first s _ x xs b))
      behind (inr b) = b.1

  arrow_back : (x : Symbol) → Shows looks.Arrow x.sign → arrow ≡ true → (d : ℕ) (xs : List Symbol) → Returns d goals free (x ∷ xs) (Statement levels false ∷ gs) free xs []
  arrow_back x shows is d xs (s, rs) w a = ((s, rs), w, subst (λ k. MaybeThen k (StatementThen s (AllThen gs rs (ends_in_brace s))) (x ∷ xs)) (sym is) (inr (shows, a)), refl)

  pub statement_arrow : (x : Symbol) → Shows looks.Arrow x.sign → arrow ≡ true → Shaped goals → Moved goals free x (Statement levels false ∷ gs) free []
  statement_arrow x shows is shape = record { shaped = shape; same = λ d xs. record { forth = arrow_forth x shows is d xs; back = arrow_back x shows is d xs } }

  -- the name of a call
  module _ (x : Symbol) (name : WrittenText) (reserved : is_reserved name.bytes ≡ false) (sign : x.sign ≡ word name.bytes) (place : x.place ≡ name.place) where
    abbrev shown_name : Shows looks.Name x.sign
    shown_name = (name.bytes, sign, reserved)

    name_arrow : x.sign ≡ mark kinds.Arrow → ⊥
    name_arrow e = let f : word name.bytes ≡ mark kinds.Arrow = sym sign ∙ e in cc

    abbrev name_goals : List Goal
    name_goals = Named (Front levels) name ∷ gs

    front_turn : (d : ℕ) (xs : List Symbol) (ss : Fills (when_goals levels gs)) → AllWithin d (when_goals levels gs) ss → AllThen (when_goals levels gs) ss free (x ∷ xs) →
        (ts : Fills name_goals) × AllWithin d name_goals ts × AllThen name_goals ts free xs × (all_parts (when_goals levels gs) ss ≡ all_parts name_goals ts)
    front_turn d xs (f, (r, (t, (e, rs)))) w a =
        let n = test_forth levels (Joined levels false false ∷ Target levels ∷ Else levels ∷ gs) free x free name reserved sign place d xs (f, (r, (t, (e, rs)))) w a in
        front n.0 n.1 n.2 n.3
      where
        front : (ss : Fills (Named Test name ∷ Joined levels false false ∷ Target levels ∷ Else levels ∷ gs)) → AllWithin d (Named Test name ∷ Joined levels false false ∷ Target levels ∷ Else levels ∷ gs) ss →
            AllThen (Named Test name ∷ Joined levels false false ∷ Target levels ∷ Else levels ∷ gs) ss free xs →
            all_parts (when_goals levels gs) (f, (r, (t, (e, rs)))) ≡ all_parts (Named Test name ∷ Joined levels false false ∷ Target levels ∷ Else levels ∷ gs) ss →
            (ts : Fills name_goals) × AllWithin d name_goals ts × AllThen name_goals ts free xs × (all_parts (when_goals levels gs) (f, (r, (t, (e, rs)))) ≡ all_parts name_goals ts)
        front ((ps, u), (q, (v, (o, qs)))) v2 b m = (((ps, Some (q, v, o)), qs), ((v2.1.0, v2.1.1.0, v2.1.1.1.0), v2.1.1.1.1), b, m ∙ simp append_assoc)

    call_forth : (d : ℕ) (xs : List Symbol) → Turns d goals free (x ∷ xs) name_goals free xs []
    call_forth d xs (act (handler c), rs) w a =
        let b = unarrow arrow _ x xs name_arrow a in (
          ((c.parameters, None), rs),
          (tt, w.1),
          b.1.2,
          ap (λ (k : Written). let r : RawCall = record { name = k; parameters = c.parameters } in a_handler r ∷ all_parts gs rs) (one_written name x.sign x.place c.name sign place b.1.0 b.1.1),
        )
    call_forth d xs (act restart, rs) w a = absurd (differs looks.Name x shown_name is_name looks.Restart refl (unarrow arrow _ x xs name_arrow a).0 refl)
    call_forth d xs (act done, rs) w a = absurd (differs looks.Name x shown_name is_name looks.Done refl (unarrow arrow _ x xs name_arrow a).0 refl)
    call_forth d xs (act (block raw), rs) w a = absurd (differs looks.Name x shown_name is_name looks.OpenBrace refl (unarrow arrow _ x xs name_arrow a).0 refl)
    call_forth d xs (when p t, rs) w a =
        let m = when_turn levels arrow gs free d (x ∷ xs) p t rs w (unarrow arrow _ x xs name_arrow a) in
        let n = front_turn d xs m.0 m.1 m.2 in (n.0, n.1, n.2, m.3 ∙ n.3)
    call_forth d xs (when_else p t s, rs) w a =
        let m = else_turn levels arrow gs free d (x ∷ xs) p t s rs w (unarrow arrow _ x xs name_arrow a) in
        let n = front_turn d xs m.0 m.1 m.2 in (n.0, n.1, n.2, m.3 ∙ n.3)

    call_back : (d : ℕ) (xs : List Symbol) → Returns d goals free (x ∷ xs) name_goals free xs []
    call_back d xs ((ps, None), rs) w a = ((act (handler (call_named name ps)), rs), (tt, w.1), arrowed arrow _ (x ∷ xs) (reserved, (sign, place, a)), refl)
    call_back d xs ((ps, Some (r, t, e)), rs) w a =
        let m = when_back levels arrow gs free d (x ∷ xs) (test (call_named name ps), (r, (t, (e, rs)))) (tt, (w.0.0, (w.0.1, (w.0.2, w.1)))) (reserved, (sign, place, a)) in
        (m.0, m.1, m.2, m.3 ∙ simp append_assoc)

    pub statement_name : Shaped goals → Moved goals free x name_goals free []
    statement_name shape = record { shaped = shape; same = λ d xs. record { forth = call_forth d xs; back = call_back d xs } }

  -- any other token
  begun : (look : Look) → begins_statement look ≡ true → (look ≡ looks.Name → ⊥) → (look ≡ looks.Not → ⊥) → (look ≡ looks.OpenRound → ⊥) → (look ≡ looks.Restart → ⊥) → (look ≡ looks.Done → ⊥) → (look ≡ looks.OpenBrace → ⊥) → ⊥
  begun looks.Name on a b c e f g = a refl
  begun looks.Not on a b c e f g = b refl
  begun looks.OpenRound on a b c e f g = c refl
  begun looks.Restart on a b c e f g = e refl
  begun looks.Done on a b c e f g = f refl
  begun looks.OpenBrace on a b c e f g = g refl
  begun look on a b c e f g = cc

  pub statement_no : (look : Look) (x : Symbol) → Shows look x.sign → (look ≡ looks.Arrow → ⊥) → (look ≡ looks.Name → ⊥) → (look ≡ looks.Not → ⊥) → (look ≡ looks.OpenRound → ⊥) → (look ≡ looks.Restart → ⊥) → (look ≡ looks.Done → ⊥) → (look ≡ looks.OpenBrace → ⊥) →
      (d : ℕ) (xs : List Symbol) → Follows d goals free (x ∷ xs) → ⊥
  statement_no look x shows z a b c e f g d xs ((s, rs), w, t) =
      let k = statement_first s _ x xs (unarrow arrow _ x xs (not_arrow look x shows z) t) in
      let same = same_look look k.0 x.sign shows k.1 in
      begun look (ap begins_statement same ∙ k.2) a b c e f g

  pub statement_no_arrow : arrow ≡ false → (x : Symbol) → Shows looks.Arrow x.sign → (d : ℕ) (xs : List Symbol) → Follows d goals free (x ∷ xs) → ⊥
  statement_no_arrow is x shows d xs ((s, rs), w, t) = first_no begins_statement x looks.Arrow shows refl (statement_first s _ x xs (subst (λ k. MaybeThen k (StatementThen s (AllThen gs rs (ends_in_brace s))) (x ∷ xs)) is t))

pub begins_predicate_of : (look : Look) → (look ≡ looks.Not) ⊎ (look ≡ looks.OpenRound) → begins_predicate look ≡ true
begins_predicate_of look (inl e) = ap begins_predicate e
begins_predicate_of look (inr e) = ap begins_predicate e

pub begins_target_of : (look : Look) → (look ≡ looks.Restart) ⊎ ((look ≡ looks.Done) ⊎ (look ≡ looks.OpenBrace)) → begins_target look ≡ true
begins_target_of look (inl e) = ap begins_target e
begins_target_of look (inr (inl e)) = ap begins_target e
begins_target_of look (inr (inr e)) = ap begins_target e
