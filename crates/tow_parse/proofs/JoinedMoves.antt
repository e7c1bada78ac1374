-- The tokens behind a factor.
use Rattle.std.specs.Prelude.{◌≡◌, ℕ, Bool, true, false, Some, None, List, [], ◌∷◌, codes}
use Rattle.std.proofs.Common.{sym, ◌∙◌, ap, append_assoc}
use Rattle.tow_language.specs.Raw.{alone, or_more, single, and_more}
use Rattle.tow_language.specs.Symbols.{Sign, word, mark, Symbol}
use Rattle.tow_parse.specs.declared.goal.Goal.{Goal}
use Rattle.tow_parse.specs.declared.goal.Goal.TheVariants.{Factor, Joined, Told}
use Rattle.tow_parse.specs.declared.goal.Joint.TheVariants as joints
use Rattle.tow_parse.specs.declared.look.Look.{Look}
use Rattle.tow_parse.specs.declared.look.Look.TheVariants as looks
use Rattle.tow_parse.specs.Follows.{Follows, ending, pending_parts}
use Rattle.tow_parse.specs.Looks.{Shows, ends}
use Rattle.tow_parse.specs.Moved.{Turns, Returns, Moved}
use Rattle.tow_parse.specs.Shape.{Shaped}
use Rattle.tow_parse.proofs.Shown.{same_look}

ends_sign : (look : Look) (grouped : Bool) (s : Sign) → ends look grouped ≡ true → Shows look s → s ≡ mark (ending grouped)
ends_sign looks.CloseRound true s e shows = shows
ends_sign looks.CloseRound false s e shows = absurd cc
ends_sign looks.Arrow true s e shows = absurd cc
ends_sign looks.Arrow false s e shows = shows
ends_sign look grouped s e shows = absurd cc

ends_no : (look : Look) (grouped : Bool) (s : Sign) → ends look grouped ≡ false → Shows look s → s ≡ mark (ending grouped) → ⊥
ends_no look true s off shows e = let f : true ≡ false = ap (λ k. ends k true) (same_look looks.CloseRound look s e shows) ∙ off in cc
ends_no look false s off shows e = let f : true ≡ false = ap (λ k. ends k false) (same_look looks.Arrow look s e shows) ∙ off in cc

module _ (levels : ℕ) (pending grouped : Bool) (gs : List Goal) (free : Bool) (x : Symbol) where
  abbrev joined_goals : List Goal
  joined_goals = Joined levels pending grouped ∷ gs

  -- what ends the predicate
  module _ (shows : x.sign ≡ mark (ending grouped)) where
    end_forth : (d : ℕ) (xs : List Symbol) → Turns d joined_goals free (x ∷ xs) gs false xs (pending_parts pending)
    end_forth d xs ((None, None), rs) w a = (rs, w.1, a.1, simp append_assoc)
    end_forth d xs ((None, Some p), rs) w a = absurd (let e : word (codes "or") ≡ mark (ending grouped) = sym a.0 ∙ shows in cc)
    end_forth d xs ((Some c, p), rs) w a = absurd (let e : word (codes "and") ≡ mark (ending grouped) = sym a.0 ∙ shows in cc)

    end_back : (d : ℕ) (xs : List Symbol) → Returns d joined_goals free (x ∷ xs) gs false xs (pending_parts pending)
    end_back d xs rs w a = (((None, None), rs), ((tt, tt), w), (shows, a), simp append_assoc)

  pub joined_end : (look : Look) → Shows look x.sign → ends look grouped ≡ true → Shaped joined_goals → Moved joined_goals free x gs false (pending_parts pending)
  joined_end look shows on shape =
      let s = ends_sign look grouped x.sign on shows in
      record { shaped = shape.1; same = λ d xs. record { forth = end_forth s d xs; back = end_back s d xs } }

  -- an `and`
  module _ (then : Bool) (shows : Shows looks.And x.sign) where
    abbrev and_goals : List Goal
    and_goals = Factor levels ∷ Told joints.And ∷ joined_goals

    and_forth : (d : ℕ) (xs : List Symbol) → Turns d joined_goals free (x ∷ xs) and_goals then xs []
    and_forth d xs ((Some (single f), p), rs) w a = ((f, (tt, ((None, p), rs))), (w.0.0, (tt, ((tt, w.0.1), w.1))), a.1, simp append_assoc)
    and_forth d xs ((Some (and_more f c), p), rs) w a = ((f, (tt, ((Some c, p), rs))), (w.0.0.0, (tt, ((w.0.0.1, w.0.1), w.1))), a.1, simp append_assoc)
    and_forth d xs ((None, Some p), rs) w a = absurd (let e : looks.And ≡ looks.Or = same_look looks.And looks.Or x.sign shows a.0 in cc)
    and_forth d xs ((None, None), rs) w a = absurd (let e : word (codes "and") ≡ mark (ending grouped) = sym shows ∙ a.0 in cc)

    and_back : (d : ℕ) (xs : List Symbol) → Returns d joined_goals free (x ∷ xs) and_goals then xs []
    and_back d xs (f, (told, ((None, p), rs))) w a = (((Some (single f), p), rs), ((w.0, w.1.1.0.1), w.1.1.1), (shows, a), simp append_assoc)
    and_back d xs (f, (told, ((Some c, p), rs))) w a = (((Some (and_more f c), p), rs), (((w.0, w.1.1.0.0), w.1.1.0.1), w.1.1.1), (shows, a), simp append_assoc)

    pub joined_and : Shaped joined_goals → Moved joined_goals free x and_goals then []
    joined_and shape = record { shaped = (tt, (tt, shape)); same = λ d xs. record { forth = and_forth d xs; back = and_back d xs } }

  -- an `or`
  module _ (then : Bool) (shows : Shows looks.Or x.sign) where
    abbrev or_goals : List Goal
    or_goals = Factor levels ∷ Joined levels true grouped ∷ gs

    or_forth : (d : ℕ) (xs : List Symbol) → Turns d joined_goals free (x ∷ xs) or_goals then xs (pending_parts pending)
    or_forth d xs ((None, Some (alone (single f))), rs) w a = ((f, ((None, None), rs)), (w.0.1, ((tt, tt), w.1)), a.1, simp append_assoc)
    or_forth d xs ((None, Some (alone (and_more f c))), rs) w a = ((f, ((Some c, None), rs)), (w.0.1.0, ((w.0.1.1, tt), w.1)), a.1, simp append_assoc)
    or_forth d xs ((None, Some (or_more (single f) p)), rs) w a = ((f, ((None, Some p), rs)), (w.0.1.0, ((tt, w.0.1.1), w.1)), a.1, simp append_assoc)
    or_forth d xs ((None, Some (or_more (and_more f c) p)), rs) w a = ((f, ((Some c, Some p), rs)), (w.0.1.0.0, ((w.0.1.0.1, w.0.1.1), w.1)), a.1, simp append_assoc)
    or_forth d xs ((Some c, p), rs) w a = absurd (let e : looks.Or ≡ looks.And = same_look looks.Or looks.And x.sign shows a.0 in cc)
    or_forth d xs ((None, None), rs) w a = absurd (let e : word (codes "or") ≡ mark (ending grouped) = sym shows ∙ a.0 in cc)

    or_back : (d : ℕ) (xs : List Symbol) → Returns d joined_goals free (x ∷ xs) or_goals then xs (pending_parts pending)
    or_back d xs (f, ((None, None), rs)) w a = (((None, Some (alone (single f))), rs), ((tt, w.0), w.1.1), (shows, a), simp append_assoc)
    or_back d xs (f, ((Some c, None), rs)) w a = (((None, Some (alone (and_more f c))), rs), ((tt, (w.0, w.1.0.0)), w.1.1), (shows, a), simp append_assoc)
    or_back d xs (f, ((None, Some p), rs)) w a = (((None, Some (or_more (single f) p)), rs), ((tt, (w.0, w.1.0.1)), w.1.1), (shows, a), simp append_assoc)
    or_back d xs (f, ((Some c, Some p), rs)) w a = (((None, Some (or_more (and_more f c) p)), rs), ((tt, ((w.0, w.1.0.0), w.1.0.1)), w.1.1), (shows, a), simp append_assoc)

    pub joined_or : Shaped joined_goals → Moved joined_goals free x or_goals then (pending_parts pending)
    joined_or shape = record { shaped = (tt, shape); same = λ d xs. record { forth = or_forth d xs; back = or_back d xs } }

  -- any other token
  pub joined_no : (look : Look) → ends look grouped ≡ false → (look ≡ looks.And → ⊥) → (look ≡ looks.Or → ⊥) → Shows look x.sign → (d : ℕ) (xs : List Symbol) → Follows d joined_goals free (x ∷ xs) → ⊥
  joined_no look off p q shows d xs (((None, None), rs), w, a) = ends_no look grouped x.sign off shows a.0
  joined_no look off p q shows d xs (((None, Some r), rs), w, a) = q (same_look look looks.Or x.sign shows a.0)
  joined_no look off p q shows d xs (((Some c, r), rs), w, a) = p (same_look look looks.And x.sign shows a.0)
