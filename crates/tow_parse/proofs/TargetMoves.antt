-- The tokens of a target.
use Rattle.std.specs.Prelude.{◌≡◌, ℕ, ◌-◌, ◌<◌, Bool, true, false, List, [], ◌∷◌}
use Rattle.std.proofs.Common.{refl, sym, ◌∙◌, ap, ap₂, subst, arith}
use Rattle.tow_language.specs.declared.token.TokenKind.TheVariants as kinds
use Rattle.tow_language.specs.Raw.{Written, RawCall, RawTarget, handler, restart, done, block, RawList, none, more}
use Rattle.tow_language.specs.Symbols.{Sign, word, Symbol}
use Rattle.tow_language.specs.Grammar.{Rest, Mark, ListThen, TargetThen, is_reserved}
use Rattle.tow_language.specs.Levels.{ListWithin}
use Rattle.tow_fit.specs.declared.call.WrittenText.{WrittenText}
use Rattle.tow_parse.specs.declared.goal.Goal.{Goal}
use Rattle.tow_parse.specs.declared.goal.Goal.TheVariants.{Statements, Target, Named}
use Rattle.tow_parse.specs.declared.goal.Role.TheVariants.{Handler}
use Rattle.tow_parse.specs.declared.look.Look.{Look}
use Rattle.tow_parse.specs.declared.look.Look.TheVariants as looks
use Rattle.tow_fit.specs.Calls.{written_of}
use Rattle.tow_parse.specs.Follows.{AllThen, Follows, all_parts, call_named, After}
use Rattle.tow_parse.specs.Looks.{Shows}
use Rattle.tow_parse.specs.Moved.{Turns, Returns, Moved}
use Rattle.tow_parse.specs.Moves.{OneLine}
use Rattle.tow_parse.specs.Parts.{a_handler, a_restart, a_done, an_open}
use Rattle.tow_parse.specs.Shape.{Shaped}
use Rattle.tow_parse.proofs.GoesOn.{some_on, marked, separators_on}
use Rattle.tow_parse.proofs.PredicateMoves.{fewer}
use Rattle.tow_parse.proofs.Shown.{same_look}

pub list_after : (raw : RawList) (L : Rest) (xs : List Symbol) → ListThen raw L xs → After true raw L xs
list_after none L xs a = a
list_after (more s raw) L xs a = a

pub after_list : (raw : RawList) (L : Rest) (xs : List Symbol) → After true raw L xs → ListThen raw L xs
after_list none L xs a = a
after_list (more s raw) L xs a = a

pub one_written : (name : WrittenText) (s : Sign) (place : ℕ) (w : Written) → s ≡ word name.bytes → place ≡ name.place → s ≡ word w.bytes → place ≡ w.place → w ≡ written_of name
one_written name s place w e f g h =
    ap₂ (λ (b : List ℕ) (p : ℕ). let r : Written = record { bytes = b; place = p } in r) (let k : w.bytes ≡ name.bytes = cc in k) (sym h ∙ f)

module _ (levels : ℕ) (gs : List Goal) (free : Bool) (x : Symbol) where
  abbrev goals : List Goal
  goals = Target levels ∷ gs

  target_apart : (look : Look) → Shows look x.sign → (look ≡ looks.Name → ⊥) → (look ≡ looks.Restart → ⊥) → (look ≡ looks.Done → ⊥) → (look ≡ looks.OpenBrace → ⊥) →
      (t : RawTarget) (L : Rest) (xs : List Symbol) → TargetThen t L (x ∷ xs) → ⊥
  target_apart look shows p q r s (handler c) L xs a = p (same_look look looks.Name x.sign shows (c.name.bytes, a.1.0, a.0))
  target_apart look shows p q r s restart L xs a = q (same_look look looks.Restart x.sign shows a.0)
  target_apart look shows p q r s done L xs a = r (same_look look looks.Done x.sign shows a.0)
  target_apart look shows p q r s (block raw) L xs a = s (same_look look looks.OpenBrace x.sign shows a.0)

  pub target_no : (look : Look) → Shows look x.sign → (look ≡ looks.Name → ⊥) → (look ≡ looks.Restart → ⊥) → (look ≡ looks.Done → ⊥) → (look ≡ looks.OpenBrace → ⊥) →
      (d : ℕ) (xs : List Symbol) → Follows d goals free (x ∷ xs) → ⊥
  target_no look shows p q r s d xs ((t, rs), w, a) = target_apart look shows p q r s t _ xs a

  module _ (name : WrittenText) (reserved : is_reserved name.bytes ≡ false) (sign : x.sign ≡ word name.bytes) (place : x.place ≡ name.place) (then : Bool) where
    name_forth : (d : ℕ) (xs : List Symbol) → Turns d goals free (x ∷ xs) (Named Handler name ∷ gs) then xs []
    name_forth d xs (handler c, rs) w a = (
      ((c.parameters, tt), rs),
      (tt, w.1),
      a.1.2,
      ap (λ (k : Written). let r : RawCall = record { name = k; parameters = c.parameters } in a_handler r ∷ all_parts gs rs) (one_written name x.sign x.place c.name sign place a.1.0 a.1.1),
    )
    name_forth d xs (restart, rs) w a = absurd (let e : looks.Name ≡ looks.Restart = same_look looks.Name looks.Restart x.sign (name.bytes, sign, reserved) a.0 in cc)
    name_forth d xs (done, rs) w a = absurd (let e : looks.Name ≡ looks.Done = same_look looks.Name looks.Done x.sign (name.bytes, sign, reserved) a.0 in cc)
    name_forth d xs (block raw, rs) w a = absurd (let e : looks.Name ≡ looks.OpenBrace = same_look looks.Name looks.OpenBrace x.sign (name.bytes, sign, reserved) a.0 in cc)

    name_back : (d : ℕ) (xs : List Symbol) → Returns d goals free (x ∷ xs) (Named Handler name ∷ gs) then xs []
    name_back d xs ((ps, u), rs) w a = ((handler (call_named name ps), rs), (tt, w.1), (reserved, (sign, place, a)), refl)

    pub target_name : Shaped goals → Moved goals free x (Named Handler name ∷ gs) then []
    target_name shape = record { shaped = shape; same = λ d xs. record { forth = name_forth d xs; back = name_back d xs } }

  restart_forth : Shows looks.Restart x.sign → (d : ℕ) (xs : List Symbol) → Turns d goals free (x ∷ xs) gs false xs (a_restart ∷ [])
  restart_forth shows d xs (restart, rs) w a = (rs, w.1, a.1, refl)
  restart_forth shows d xs (handler c, rs) w a = absurd (let e : looks.Restart ≡ looks.Name = same_look looks.Restart looks.Name x.sign shows (c.name.bytes, a.1.0, a.0) in cc)
  restart_forth shows d xs (done, rs) w a = absurd (let e : looks.Restart ≡ looks.Done = same_look looks.Restart looks.Done x.sign shows a.0 in cc)
  restart_forth shows d xs (block raw, rs) w a = absurd (let e : looks.Restart ≡ looks.OpenBrace = same_look looks.Restart looks.OpenBrace x.sign shows a.0 in cc)

  pub target_restart : Shows looks.Restart x.sign → Shaped goals → Moved goals free x gs false (a_restart ∷ [])
  target_restart shows shape = record {
    shaped = shape.1;
    same = λ d xs. record { forth = restart_forth shows d xs; back = λ rs w a. ((restart, rs), (tt, w), (shows, a), refl) };
  }

  done_forth : Shows looks.Done x.sign → (d : ℕ) (xs : List Symbol) → Turns d goals free (x ∷ xs) gs false xs (a_done ∷ [])
  done_forth shows d xs (done, rs) w a = (rs, w.1, a.1, refl)
  done_forth shows d xs (handler c, rs) w a = absurd (let e : looks.Done ≡ looks.Name = same_look looks.Done looks.Name x.sign shows (c.name.bytes, a.1.0, a.0) in cc)
  done_forth shows d xs (restart, rs) w a = absurd (let e : looks.Done ≡ looks.Restart = same_look looks.Done looks.Restart x.sign shows a.0 in cc)
  done_forth shows d xs (block raw, rs) w a = absurd (let e : looks.Done ≡ looks.OpenBrace = same_look looks.Done looks.OpenBrace x.sign shows a.0 in cc)

  pub target_done : Shows looks.Done x.sign → Shaped goals → Moved goals free x gs false (a_done ∷ [])
  target_done shows shape = record {
    shaped = shape.1;
    same = λ d xs. record { forth = done_forth shows d xs; back = λ rs w a. ((done, rs), (tt, w), (shows, a), refl) };
  }

  -- a block
  module _ (shows : Shows looks.OpenBrace x.sign) where
    abbrev block_goals : List Goal
    block_goals = Statements (levels - 1) true ∷ gs

    block_forth : 0 < levels → (d : ℕ) (xs : List Symbol) → Turns d goals free (x ∷ xs) block_goals true xs (an_open ∷ [])
    block_forth some d xs (block raw, rs) w a = ((raw, rs), (subst (λ k. ListWithin k raw) (sym (fewer levels d some)) w.0.1, w.1), list_after raw _ xs a.1, refl)
    block_forth some d xs (handler c, rs) w a = absurd (let e : looks.OpenBrace ≡ looks.Name = same_look looks.OpenBrace looks.Name x.sign shows (c.name.bytes, a.1.0, a.0) in cc)
    block_forth some d xs (restart, rs) w a = absurd (let e : looks.OpenBrace ≡ looks.Restart = same_look looks.OpenBrace looks.Restart x.sign shows a.0 in cc)
    block_forth some d xs (done, rs) w a = absurd (let e : looks.OpenBrace ≡ looks.Done = same_look looks.OpenBrace looks.Done x.sign shows a.0 in cc)

    block_back : 0 < levels → (d : ℕ) (xs : List Symbol) → Returns d goals free (x ∷ xs) block_goals true xs (an_open ∷ [])
    block_back some d xs (raw, rs) w a = ((block raw, rs), ((omega arith, subst (λ k. ListWithin k raw) (fewer levels d some) w.0), w.1), (shows, after_list raw _ xs a), refl)

    pub target_block : 0 < levels → Shaped goals → Moved goals free x block_goals true (an_open ∷ [])
    target_block some shape = record { shaped = shape; same = λ d xs. record { forth = block_forth some d xs; back = block_back some d xs } }

    block_deep : levels ≡ 0 → (xs : List Symbol) → Follows 0 goals free (x ∷ xs) → ⊥
    block_deep deep xs ((block raw, rs), w, a) = let lt = w.0.0 in omega (arith, lt)
    block_deep deep xs ((handler c, rs), w, a) = let e : looks.OpenBrace ≡ looks.Name = same_look looks.OpenBrace looks.Name x.sign shows (c.name.bytes, a.1.0, a.0) in cc
    block_deep deep xs ((restart, rs), w, a) = let e : looks.OpenBrace ≡ looks.Restart = same_look looks.OpenBrace looks.Restart x.sign shows a.0 in cc
    block_deep deep xs ((done, rs), w, a) = let e : looks.OpenBrace ≡ looks.Done = same_look looks.OpenBrace looks.Done x.sign shows a.0 in cc

    pub target_deep : levels ≡ 0 → ((xs : List Symbol) → Follows 0 goals free (x ∷ xs) → ⊥) × ((xs : List Symbol) × OneLine xs × Follows 1 goals free (x ∷ xs))
    target_deep deep =
        let on = some_on 1 gs true in
        let k = separators_on (Mark kinds.CloseBrace (AllThen gs on.0 true)) (marked kinds.CloseBrace (AllThen gs on.0 true) (λ e. cc) on.2) in
        (block_deep deep, (k.0, k.1, ((block none, on.0), ((omega arith, tt), on.1), (shows, k.2))))

pub name_reserved : (s : Sign) (bytes : List ℕ) → Shows looks.Name s → s ≡ word bytes → is_reserved bytes ≡ false
name_reserved s bytes (b, e, f) g = subst (λ k. is_reserved k ≡ false) (let h : b ≡ bytes = cc in h) f
