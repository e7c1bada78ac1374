-- The opening bracket of a call.
use Rattle.std.specs.Prelude.{◌≡◌, ℕ, Bool, true, false, Some, None, List, [], ◌∷◌}
use Rattle.std.proofs.Common.{refl, subst}
use mathlib.Core.Logic.{inl, inr}
use Rattle.tow_language.specs.Symbols.{Symbol}
use Rattle.tow_language.specs.Grammar.{TargetThen, is_block}
use Rattle.tow_fit.specs.declared.call.WrittenText.{WrittenText}
use Rattle.tow_fit.specs.declared.fault.ParseFault.{ParseFault}
use Rattle.tow_fit.specs.declared.fault.ParseFault.TheVariants.{Unexpected, TooDeep, UnknownName, BadParameter, BadAttribute, BadTarget, TooManyLimits, NoMemory}
use Rattle.tow_parse.specs.declared.goal.Goal.{Goal}
use Rattle.tow_parse.specs.declared.goal.Goal.TheVariants.{Named, Parameters}
use Rattle.tow_parse.specs.declared.goal.Heading.{Heading}
use Rattle.tow_parse.specs.declared.goal.Phase.{Phase}
use Rattle.tow_parse.specs.declared.goal.Phase.TheVariants as phases
use Rattle.tow_parse.specs.declared.goal.Role.{Role}
use Rattle.tow_parse.specs.declared.goal.Role.TheVariants.{Test, Handler, Front}
use Rattle.tow_parse.specs.declared.look.Look.{Look}
use Rattle.tow_parse.specs.declared.look.Look.TheVariants as looks
use Rattle.tow_parse.specs.declared.state.State.{State}
use Rattle.tow_parse.specs.Follows.{RoleFill, RoleThen, Fills, AllThen, ElseOrEnd}
use Rattle.tow_parse.specs.Looks.{Shows, opens}
use Rattle.tow_parse.specs.Moved.{Turns, Moved}
use Rattle.tow_parse.specs.Moves.{Stops}
use Rattle.tow_parse.specs.Phased.{PhaseStops}
use Rattle.tow_parse.specs.Shape.{role_stage, Behind, Shaped}
use Rattle.tow_parse.proofs.Firsts.{first_no, after_factor, after_statement, after_target, behind_factor, behind_statement, behind_target, joined_first}
use Rattle.tow_parse.proofs.Shown.{same_look}

pub is_round : (look : Look) → opens look ≡ true → (look ≡ looks.OpenSquare → ⊥) → look ≡ looks.OpenRound
is_round looks.OpenRound on off = refl
is_round looks.OpenSquare on off = absurd (off refl)
is_round look on off = absurd cc

module _ (x : Symbol) (look : Look) (shows : Shows look x.sign) (f : after_factor look ≡ false) (t : after_target look ≡ false) (s : after_statement look ≡ false) where
  not_over : (role : Role) (gs : List Goal) → Behind (role_stage role) gs → Shaped gs → (r : RoleFill role) (rs : Fills gs) (xs : List Symbol) → RoleThen role r (AllThen gs rs) (x ∷ xs) → ⊥
  not_over Test gs b shape r rs xs a = first_no after_factor x look shows f (behind_factor x xs gs b shape rs false a)
  not_over Handler gs b shape r rs xs a = first_no after_target x look shows t (behind_target x xs gs b shape rs a)
  not_over (Front levels) gs b shape None rs xs a = first_no after_statement x look shows s (behind_statement x xs gs b shape rs a)
  not_over (Front levels) gs b shape (Some w) rs xs a = first_no after_factor x look shows f (joined_first x xs false w.0 (λ free. TargetThen w.1 (ElseOrEnd w.2 (AllThen gs rs) (is_block w.1))) a)

module _ (role : Role) (name : WrittenText) (gs : List Goal) (free : Bool) (x : Symbol) (shape : Shaped (Named role name ∷ gs)) where
  abbrev heading : Bool → Heading
  heading square = record { role = role; name = name; square = square }

  round_forth : Shows looks.OpenRound x.sign → (d : ℕ) (xs : List Symbol) → Turns d (Named role name ∷ gs) free (x ∷ xs) (Parameters (heading false) phases.First ∷ gs) free xs []
  round_forth shows d xs ((ps, r), rs) w (inl a) = absurd (not_over x looks.OpenRound shows refl refl refl role gs shape.0 shape.1 r rs xs a.1)
  round_forth shows d xs ((ps, r), rs) w (inr (inl a)) = (((ps, r), rs), w, a.1, refl)
  round_forth shows d xs ((ps, r), rs) w (inr (inr a)) = absurd (let e : looks.OpenRound ≡ looks.OpenSquare = same_look looks.OpenRound looks.OpenSquare x.sign shows a.0 in cc)

  pub named_round : Shows looks.OpenRound x.sign → Moved (Named role name ∷ gs) free x (Parameters (heading false) phases.First ∷ gs) free []
  named_round shows = record { shaped = shape; same = λ d xs. record { forth = round_forth shows d xs; back = λ ss w a. (ss, w, inr (inl (shows, a)), refl) } }

  square_forth : Shows looks.OpenSquare x.sign → (d : ℕ) (xs : List Symbol) → Turns d (Named role name ∷ gs) free (x ∷ xs) (Parameters (heading true) phases.First ∷ gs) free xs []
  square_forth shows d xs ((ps, r), rs) w (inl a) = absurd (not_over x looks.OpenSquare shows refl refl refl role gs shape.0 shape.1 r rs xs a.1)
  square_forth shows d xs ((ps, r), rs) w (inr (inl a)) = absurd (let e : looks.OpenSquare ≡ looks.OpenRound = same_look looks.OpenSquare looks.OpenRound x.sign shows a.0 in cc)
  square_forth shows d xs ((ps, r), rs) w (inr (inr a)) = (((ps, r), rs), w, a.1, refl)

  pub named_square : Shows looks.OpenSquare x.sign → Moved (Named role name ∷ gs) free x (Parameters (heading true) phases.First ∷ gs) free []
  named_square shows = record { shaped = shape; same = λ d xs. record { forth = square_forth shows d xs; back = λ ss w a. (ss, w, inr (inr (shows, a)), refl) } }

pub named_taken : (role : Role) (name : WrittenText) (gs : List Goal) (free : Bool) (x : Symbol) → Shaped (Named role name ∷ gs) → (look : Look) → Shows look x.sign → opens look ≡ true → (square : Bool) → (square ≡ true → look ≡ looks.OpenSquare) → (square ≡ false → look ≡ looks.OpenSquare → ⊥) →
    Moved (Named role name ∷ gs) free x (Parameters (record { role = role; name = name; square = square }) phases.First ∷ gs) free []
named_taken role name gs free x shape look shows on true one other = named_square role name gs free x shape (subst (λ k. Shows k x.sign) (one refl) shows)
named_taken role name gs free x shape look shows on false one other = named_round role name gs free x shape (subst (λ k. Shows k x.sign) (is_round look on (other refl)) shows)

pub phase_stops : (h : Heading) (phase : Phase) (gs : List Goal) (old : State) (x : Symbol) (e : ParseFault) → PhaseStops h.square phase x e → Stops (Parameters h phase ∷ gs) old x e
phase_stops h phase gs old x (Unexpected place) s = (s.0, λ d xs a. s.1 h refl gs old.free d xs a)
phase_stops h phase gs old x NoMemory s = tt
phase_stops h phase gs old x (TooDeep place) s = absurd s
phase_stops h phase gs old x (UnknownName place) s = s
phase_stops h phase gs old x (BadParameter place) s = s
phase_stops h phase gs old x (BadAttribute place) s = s
phase_stops h phase gs old x (BadTarget place) s = s
phase_stops h phase gs old x (TooManyLimits place) s = s
