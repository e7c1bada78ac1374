-- One token, or the end of the text.
use Rattle.std.specs.Prelude.{◌≡◌, ◌↔◌, ℕ, ◌<◌, Bool, true, false, Option, Some, None, IfSome, IfNone, List, [], ◌∷◌}
use Rattle.std.proofs.Common.{refl, sym, ◌∙◌, ap, subst}
use Rattle.std.proofs.lemmas.List.{append-nil}
use mathlib.Core.Logic.{inl, inr}
use Rattle.tow_language.specs.declared.token.TokenKind.{TokenKind}
use Rattle.tow_language.specs.declared.token.TokenKind.TheVariants as kinds
use Rattle.tow_language.specs.declared.token.TokenKind.TheVariants.{Comma}
use Rattle.tow_language.specs.Raw.{Written, RawValue, one, array, RawParameters, unnamed, named, RawPredicate, alone, or_more, single, and_more, RawFactor, test, negated, grouped, RawTarget, handler, restart, done, block, RawStatement, act, when, when_else, RawList, none, more}
use Rattle.tow_language.specs.Symbols.{Symbol, joined}
use Rattle.tow_language.specs.Grammar.{Rest, Mark, Commas, TextThen, ValueThen, ParametersThen, FactorThen, PredicateThen, TargetThen, StatementThen, ends_in_brace}
use Rattle.tow_fit.specs.declared.call.WrittenParameters.TheVariants as written
use Rattle.tow_fit.specs.declared.fault.ParseFault.{ParseFault}
use Rattle.tow_fit.specs.declared.fault.ParseFault.TheVariants.{Unexpected, TooDeep, UnknownName, BadParameter, BadAttribute, BadTarget, TooManyLimits, NoMemory}
use Rattle.tow_parse.specs.declared.goal.Goal.{Goal}
use Rattle.tow_parse.specs.declared.goal.Goal.TheVariants.{Statements, Statement, Factor, Joined, Target, Else, Told, Called, Named, Parameters}
use Rattle.tow_parse.specs.declared.goal.Slot.{Slot}
use Rattle.tow_parse.specs.declared.goal.Slot.TheVariants as slots
use Rattle.tow_parse.specs.declared.goal.Phase.{Phase}
use Rattle.tow_parse.specs.declared.goal.Phase.TheVariants as phases
use Rattle.tow_parse.specs.declared.look.Look.{Look}
use Rattle.tow_parse.specs.declared.look.Look.TheVariants as looks
use Rattle.tow_parse.specs.declared.state.State.{State}
use Rattle.tow_parse.specs.declared.step.Reader.{Reader}
use Rattle.tow_parse.specs.Follows.{Leads, Follows, AllThen, JoinedFill, JoinedThen, Onward, After, Closed, MaybeThen, bracket}
use Rattle.tow_parse.specs.Looks.{Shows, opened}
use Rattle.tow_parse.specs.Moves.{told, Takes, Passes, Stops, Waits, may_end, ends_at}
use Rattle.tow_parse.specs.Phases.{PhaseFill, PhaseThen, SlotFill, SlotThen, CommasThen}
use Rattle.tow_parse.specs.Readers.{Steps, Halts, Finishes, MayFollow}
use Rattle.tow_parse.specs.Shape.{Shaped}
use Rattle.tow_parse.proofs.Firsts.{list_front}
use Rattle.tow_parse.proofs.Joining.{joined_blank, joined_kept, joined_line}
use Rattle.tow_parse.proofs.Transport.{passes_takes, passes_stops}

pub blank_steps : (r : Reader) (x : Symbol) → Shaped r.state.goals → 0 < r.depth → Shows looks.Newline x.sign → Steps r x r
blank_steps r x shape some shows = record {
  shaped = shape;
  same = λ d xs all. subst (λ k. Leads d r.state.goals r.state.free (told r.state) k all ↔ Leads d r.state.goals r.state.free (told r.state) (joined r.depth xs) all)
      (sym (joined_blank r.depth x xs some shows)) (λ a. a, λ a. a);
}

module _ (r : Reader) (look : Look) (x : Symbol) (shows : Shows look x.sign) (off : look ≡ looks.Newline → r.depth ≡ 0) (hs : List Goal) (mid : State) (first : Passes r.state.goals r.state look hs mid) where
  pub steps : (new : Reader) → Takes hs mid x new.state → new.depth ≡ opened look r.depth → Steps r x new
  steps new t depth =
      let all_taken = passes_takes r.state.goals hs r.state mid look first x shows new.state t in record {
        shaped = all_taken.shaped;
        same = λ d xs all.
            subst (λ k. Leads d r.state.goals r.state.free (told r.state) k all ↔ Leads d new.state.goals new.state.free (told new.state) (joined new.depth xs) all)
            (sym (joined_kept look r.depth x xs shows off))
            (subst (λ n. Leads d r.state.goals r.state.free (told r.state) (x ∷ joined (opened look r.depth) xs) all ↔ Leads d new.state.goals new.state.free (told new.state) (joined n xs) all)
            (sym depth) (all_taken.leads d (joined (opened look r.depth) xs) all));
      }

  here : (d : ℕ) (xs : List Symbol) → MayFollow r d (x ∷ xs) → Follows d r.state.goals r.state.free (x ∷ joined (opened look r.depth) xs)
  here d xs a = subst (λ k. Follows d r.state.goals r.state.free k) (joined_kept look r.depth x xs shows off) a

  halts_at : (e : ParseFault) → Stops r.state.goals r.state x e → Halts r x e
  halts_at (Unexpected place) s = (s.0, λ d xs a. s.1 d (joined (opened look r.depth) xs) (here d xs a))
  halts_at (TooDeep place) s = (
    s.0,
    (λ xs a. s.1 (joined (opened look r.depth) xs) (here 0 xs a)),
    (
      s.2.0,
      subst (λ k. Follows 1 r.state.goals r.state.free k)
          (sym (joined_kept look r.depth x s.2.0 shows off ∙ ap (λ k. x ∷ k) (joined_line (opened look r.depth) s.2.0 s.2.1))) s.2.2,
    ),
  )
  halts_at NoMemory s = tt
  halts_at (UnknownName place) s = s
  halts_at (BadParameter place) s = s
  halts_at (BadAttribute place) s = s
  halts_at (BadTarget place) s = s
  halts_at (TooManyLimits place) s = s

  pub halts : (e : ParseFault) → Stops hs mid x e → Halts r x e
  halts e s = halts_at e (passes_stops r.state.goals hs r.state mid look first x shows e s)

pub nothing_follows : (mid : State) (x : Symbol) → Stops [] mid x (Unexpected x.place)
nothing_follows mid x = (refl, λ d xs a. let e = a.2 in cc)

-- the end of the text
slot_no_end : (slot : Slot) (r : SlotFill slot) (k : TokenKind) (L : Rest) → SlotThen slot r (Mark k L) [] → ⊥
slot_no_end (slots.Unnamed vs) [] k L a = a
slot_no_end (slots.Unnamed vs) (v ∷ r) k L a = a
slot_no_end (slots.Named ps name) [] k L a = a
slot_no_end (slots.Named ps name) (p ∷ r) k L a = a

text_no_end : (w : Written) (L : Rest) → TextThen w L [] → ⊥
text_no_end w L (inl a) = a
text_no_end w L (inr a) = a

texts_no_end : (ws : List Written) (k : TokenKind) (L : Rest) → Commas TextThen ws (Mark k L) [] → ⊥
texts_no_end [] k L a = a
texts_no_end (w ∷ []) k L a = text_no_end w (Mark k L) a
texts_no_end (w ∷ v ∷ ws) k L a = text_no_end w (Mark Comma (Commas TextThen (v ∷ ws) (Mark k L))) a

value_no_end : (v : RawValue) (L : Rest) → ValueThen v L [] → ⊥
value_no_end (one w) L a = text_no_end w L a
value_no_end (array place ws) L a = a

values_no_end : (vs : List RawValue) (k : TokenKind) (L : Rest) → Commas ValueThen vs (Mark k L) [] → ⊥
values_no_end [] k L a = a
values_no_end (v ∷ []) k L a = value_no_end v (Mark k L) a
values_no_end (v ∷ w ∷ vs) k L a = value_no_end v (Mark Comma (Commas ValueThen (w ∷ vs) (Mark k L))) a

parameters_no_end : (ps : RawParameters) (k : TokenKind) (L : Rest) → ParametersThen ps (Mark k L) [] → ⊥
parameters_no_end (unnamed vs) k L a = values_no_end vs k L a
parameters_no_end (named []) k L a = a
parameters_no_end (named (p ∷ [])) k L a = a
parameters_no_end (named (p ∷ q ∷ ps)) k L a = a

behind_no_end : (ws : List Written) (k : TokenKind) (L : Rest) → CommasThen TextThen ws (Mark k L) [] → ⊥
behind_no_end [] k L a = a
behind_no_end (w ∷ ws) k L a = a

phase_no_end : (phase : Phase) (r : PhaseFill phase) (k : TokenKind) (L : Rest) → PhaseThen phase r (Mark k L) [] → ⊥
phase_no_end phases.First r k L a = parameters_no_end r k L a
phase_no_end (phases.Word w) (inl []) k L a = a
phase_no_end (phases.Word w) (inl (v ∷ vs)) k L a = a
phase_no_end (phases.Word w) (inr p) k L a = a
phase_no_end (phases.Value slot) r k L a = value_no_end r.0 (SlotThen slot r.1 (Mark k L)) a
phase_no_end (phases.Name pairs) r k L a = a
phase_no_end (phases.Equals pairs name) r k L a = a
phase_no_end (phases.After (written.Unnamed vs)) [] k L a = a
phase_no_end (phases.After (written.Unnamed vs)) (v ∷ r) k L a = a
phase_no_end (phases.After (written.Named ps)) [] k L a = a
phase_no_end (phases.After (written.Named ps)) (p ∷ r) k L a = a
phase_no_end (phases.Texts t) r k L a = texts_no_end r.0 kinds.CloseBrace (SlotThen t.slot r.1 (Mark k L)) a
phase_no_end (phases.Text t) r k L a = text_no_end r.0 (CommasThen TextThen r.1 (Mark kinds.CloseBrace (SlotThen t.slot r.2 (Mark k L)))) a
phase_no_end (phases.AfterText t) r k L a = behind_no_end r.0 kinds.CloseBrace (SlotThen t.slot r.1 (Mark k L)) a

factor_no_end : (f : RawFactor) (L : Rest) → FactorThen f L [] → ⊥
factor_no_end (test c) L a = a.1
factor_no_end (negated f) L a = a
factor_no_end (grouped p) L a = a

predicate_no_end : (p : RawPredicate) (L : Rest) → PredicateThen p L [] → ⊥
predicate_no_end (alone (single f)) L a = factor_no_end f _ a
predicate_no_end (alone (and_more f c)) L a = factor_no_end f _ a
predicate_no_end (or_more (single f) p) L a = factor_no_end f _ a
predicate_no_end (or_more (and_more f c) p) L a = factor_no_end f _ a

target_no_end : (t : RawTarget) (L : Rest) → TargetThen t L [] → ⊥
target_no_end (handler c) L a = a.1
target_no_end restart L a = a
target_no_end done L a = a
target_no_end (block raw) L a = a

statement_no_end : (s : RawStatement) (L : Rest) → StatementThen s L [] → ⊥
statement_no_end (act t) L a = target_no_end t L a
statement_no_end (when p t) L a = predicate_no_end p _ a
statement_no_end (when_else p t s) L a = predicate_no_end p _ a

maybe_no_end : (arrow : Bool) (s : RawStatement) (L : Rest) → MaybeThen arrow (StatementThen s L) [] → ⊥
maybe_no_end true s L (inl a) = statement_no_end s L a
maybe_no_end true s L (inr a) = a
maybe_no_end false s L a = statement_no_end s L a

joined_no_end : (round : Bool) (r : JoinedFill) (K : Onward) → JoinedThen round r K [] → ⊥
joined_no_end round (Some c, p) K a = a
joined_no_end round (None, Some p) K a = a
joined_no_end round (None, None) K a = a

nested_no_end : (raw : RawList) (free : Bool) (K : Onward) → After free raw (Closed true K) [] → ⊥
nested_no_end none free K a = a
nested_no_end (more s raw) true K a = statement_no_end s (After (ends_in_brace s) raw (Closed true K)) (list_front s raw (Closed true K) [] a)
nested_no_end (more s raw) false K (inl a) = a
nested_no_end (more s raw) false K (inr a) = a

goal_no_end : (goal : Goal) → Waits goal looks.End → may_end goal ≡ false → (gs : List Goal) (free : Bool) (d : ℕ) → Follows d (goal ∷ gs) free [] → ⊥
goal_no_end (Statements levels true) w off gs free d (rs, v, a) = nested_no_end rs.0 free (AllThen gs rs.1) a
goal_no_end (Statements levels false) w off gs free d (rs, v, a) = cc
goal_no_end (Statement levels arrow) w off gs free d (rs, v, a) = maybe_no_end arrow rs.0 _ a
goal_no_end (Factor levels) w off gs free d (rs, v, a) = factor_no_end rs.0 _ a
goal_no_end (Joined levels pending round) w off gs free d (rs, v, a) = joined_no_end round rs.0 (AllThen gs rs.1) a
goal_no_end (Target levels) w off gs free d (rs, v, a) = target_no_end rs.0 _ a
goal_no_end (Else levels) w off gs free d (rs, v, a) = cc
goal_no_end (Told joint) w off gs free d (rs, v, a) = w
goal_no_end (Called levels call) w off gs free d (rs, v, a) = w
goal_no_end (Named role name) w off gs free d (rs, v, a) = cc
goal_no_end (Parameters heading phase) w off gs free d (rs, v, a) = phase_no_end phase rs.0.0 (bracket heading.square) _ a

module _ (r : Reader) (mid : State) where
  pub not_ended : (goal : Goal) (gs : List Goal) → Passes r.state.goals r.state looks.End (goal ∷ gs) mid → Waits goal looks.End → may_end goal ≡ false → (d : ℕ) → MayFollow r d [] → ⊥
  not_ended goal gs first waits off d (rs, w, a) =
      let m = (first.leads d [] _ refl).0 (rs, w, a, refl) in goal_no_end goal waits off gs mid.free d (m.0, m.1, m.2)

  last : (goal : Goal) (gs : List Goal) → Shaped (goal ∷ gs) → may_end goal ≡ true → Leads 0 (goal ∷ gs) mid.free (told mid) [] (told mid)
  last (Statements levels false) gs shape on = subst (λ k. Leads 0 (Statements levels false ∷ k) mid.free (told mid) [] (told mid)) (sym shape.0) ((none, tt), (tt, tt), refl, append-nil (told mid))
  last (Statements levels true) gs shape on = absurd cc
  last goal gs shape on = absurd cc

  pub ended : (goal : Goal) (gs : List Goal) → Passes r.state.goals r.state looks.End (goal ∷ gs) mid → may_end goal ≡ true → Finishes r mid.parts
  ended goal gs first on = (first.leads 0 [] (told mid) refl).1 (last goal gs first.shaped on)

  pub ended_empty : Passes r.state.goals r.state looks.End [] mid → Finishes r mid.parts
  ended_empty first = (first.leads 0 [] (told mid) refl).1 (tt, tt, refl, append-nil (told mid))

  pub not_ended_at : (next : Option Goal) → IfSome next (λ g. Passes r.state.goals r.state looks.End (g ∷ mid.goals) mid) → IfSome next (λ g. Waits g looks.End) → ends_at next ≡ false → (d : ℕ) → MayFollow r d [] → ⊥
  not_ended_at None p w off d a = cc
  not_ended_at (Some goal) p w off d a = not_ended goal mid.goals p w off d a

  pub ended_at : (next : Option Goal) → IfSome next (λ g. Passes r.state.goals r.state looks.End (g ∷ mid.goals) mid) → IfNone next (Passes r.state.goals r.state looks.End [] mid) → ends_at next ≡ true → Finishes r mid.parts
  ended_at None p n on = ended_empty n
  ended_at (Some goal) p n on = ended goal mid.goals p on
