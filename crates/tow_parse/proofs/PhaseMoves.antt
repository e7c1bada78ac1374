-- The tokens between the brackets of a call.
use Rattle.std.specs.Prelude.{◌≡◌, ℕ, Bool, true, false, Result, Ok, Err, IfOk, IfErr, List, [], ◌∷◌, ◌++◌, map}
use Rattle.std.proofs.Common.{refl, sym, ◌∙◌, ap, ap₂, subst, append_assoc}
use Rattle.std.proofs.lemmas.List.{map-append, append-nil}
use mathlib.Core.Logic.{inl, inr}
use Rattle.tow_language.specs.declared.token.TokenKind.{TokenKind}
use Rattle.tow_language.specs.declared.token.TokenKind.TheVariants as kinds
use Rattle.tow_language.specs.Raw.{Written, RawValue, one, array, RawParameters, unnamed, named}
use Rattle.tow_language.specs.Symbols.{Sign, word, quoted, mark, Symbol}
use Rattle.tow_language.specs.Grammar.{Rest, Mark, TextThen, Commas, ValueThen, PairThen, ParametersThen}
use Rattle.tow_fit.specs.declared.call.WrittenText.{WrittenText}
use Rattle.tow_fit.specs.declared.call.WrittenValue.{WrittenValue}
use Rattle.tow_fit.specs.declared.call.WrittenValue.TheVariants as values
use Rattle.tow_fit.specs.declared.call.WrittenPair.{WrittenPair}
use Rattle.tow_fit.specs.declared.call.WrittenParameters.{WrittenParameters}
use Rattle.tow_fit.specs.declared.call.WrittenParameters.TheVariants as written
use Rattle.tow_parse.specs.declared.goal.Array.{Array}
use Rattle.tow_parse.specs.declared.goal.Slot.{Slot}
use Rattle.tow_parse.specs.declared.goal.Slot.TheVariants as slots
use Rattle.tow_parse.specs.declared.goal.Phase.{Phase}
use Rattle.tow_parse.specs.declared.goal.Phase.TheVariants as phases
use Rattle.tow_fit.specs.Calls.{written_of, value_of, pair_of, parameters_of, call_of}
use Rattle.tow_fit.specs.declared.call.Call.{Call}
use Rattle.tow_parse.specs.declared.goal.Goal.{Goal}
use Rattle.tow_parse.specs.declared.goal.Goal.TheVariants.{Parameters}
use Rattle.tow_parse.specs.declared.goal.Heading.{Heading}
use Rattle.tow_parse.specs.declared.goal.Role.{Role}
use Rattle.tow_parse.specs.declared.goal.Role.TheVariants.{Test, Handler, Front}
use Rattle.tow_parse.specs.Follows.{bracket, RoleFill, RoleThen, RoleWithin, role_parts, call_named, Fills, AllThen, AllWithin, all_parts}
use Rattle.tow_parse.specs.Moved.{Turns, Returns, Moved}
use Rattle.tow_parse.specs.Parts.{RawPart}
use Rattle.tow_parse.specs.Shape.{role_stage, Behind, Shaped}
use Rattle.tow_fit.specs.declared.fault.ParseFault.{ParseFault}
use Rattle.tow_fit.specs.declared.fault.ParseFault.TheVariants as faults
use Rattle.tow_parse.specs.declared.look.Look.{Look}
use Rattle.tow_parse.specs.declared.look.Look.TheVariants as looks
use Rattle.tow_parse.specs.declared.phase.Place.{Place}
use Rattle.tow_parse.specs.declared.phase.Place.TheVariants as places
use Rattle.tow_parse.specs.Looks.{Shows, shuts}
use Rattle.tow_parse.specs.Phased.{PhaseTakes, PhaseStops, role_goals, role_told, call_with, filled, IsText}
use Rattle.tow_parse.proofs.Shown.{same_look}
use Rattle.tow_parse.specs.Phases.{PhaseFill, PhaseThen, phase_made, SlotFill, SlotThen, slot_made, AfterFill, AfterThen, after_made, CommasThen}

-- between brackets, what may follow a place is what may follow another
pub record Phased (phase : Phase) (xs : List Symbol) (next : Phase) (ys : List Symbol) (L : Rest) : Type 0 where
  pub forth : (r : PhaseFill phase) → PhaseThen phase r L xs → (s : PhaseFill next) × PhaseThen next s L ys × (phase_made phase r ≡ phase_made next s)
  pub back : (s : PhaseFill next) → PhaseThen next s L ys → (r : PhaseFill phase) × PhaseThen phase r L xs × (phase_made phase r ≡ phase_made next s)

-- the closing bracket ends the call, which has these parameters
pub record Shut (x : Symbol) (xs : List Symbol) (square : Bool) (M : Rest) (phase : Phase) (ps : RawParameters) : Type 0 where
  pub forth : (r : PhaseFill phase) → PhaseThen phase r (Mark (bracket square) M) (x ∷ xs) → M xs × (phase_made phase r ≡ ps)
  pub back : M xs → (r : PhaseFill phase) × PhaseThen phase r (Mark (bracket square) M) (x ∷ xs) × (phase_made phase r ≡ ps)

make : (w : Written) (t : WrittenText) → w.bytes ≡ t.bytes → w.place ≡ t.place → w ≡ written_of t
make w t e f = ap₂ (λ (b : List ℕ) (p : ℕ). let r : Written = record { bytes = b; place = p } in r) e f

text_is : (x : Symbol) (t : WrittenText) → IsText x t → (w : Written) (L : Rest) (xs : List Symbol) → TextThen w L (x ∷ xs) → (w ≡ written_of t) × L xs
text_is x t (inl e, p) w L xs (inl a) = (make w t (let k : w.bytes ≡ t.bytes = let m : word w.bytes ≡ word t.bytes = sym a.0 ∙ e in cc in k) (sym a.1 ∙ p), a.2)
text_is x t (inl e, p) w L xs (inr a) = absurd (let m : quoted w.bytes ≡ word t.bytes = sym a.0 ∙ e in cc)
text_is x t (inr e, p) w L xs (inl a) = absurd (let m : word w.bytes ≡ quoted t.bytes = sym a.0 ∙ e in cc)
text_is x t (inr e, p) w L xs (inr a) = (make w t (let k : w.bytes ≡ t.bytes = let m : quoted w.bytes ≡ quoted t.bytes = sym a.0 ∙ e in cc in k) (sym a.1 ∙ p), a.2)

is_text : (x : Symbol) (t : WrittenText) → IsText x t → (L : Rest) (xs : List Symbol) → L xs → TextThen (written_of t) L (x ∷ xs)
is_text x t (inl e, p) L xs a = inl (e, p, a)
is_text x t (inr e, p) L xs a = inr (e, p, a)

text_no_mark : (x : Symbol) (k : TokenKind) → x.sign ≡ mark k → (w : Written) (L : Rest) (xs : List Symbol) → TextThen w L (x ∷ xs) → ⊥
text_no_mark x k e w L xs (inl a) = let m : word w.bytes ≡ mark k = sym a.0 ∙ e in cc
text_no_mark x k e w L xs (inr a) = let m : quoted w.bytes ≡ mark k = sym a.0 ∙ e in cc

mark_no_text : (x : Symbol) (t : WrittenText) → IsText x t → (k : TokenKind) → x.sign ≡ mark k → ⊥
mark_no_text x t (inl e, p) k f = let m : word t.bytes ≡ mark k = sym e ∙ f in cc
mark_no_text x t (inr e, p) k f = let m : quoted t.bytes ≡ mark k = sym e ∙ f in cc

-- parts with commas, at the first
commas_first : {A : Type 0} (part : A → Rest → Rest) (v : A) (vs : List A) (L : Rest) (xs : List Symbol) → Commas part (v ∷ vs) L xs → part v (CommasThen part vs L) xs
commas_first part v [] L xs a = a
commas_first part v (w ∷ vs) L xs a = a

first_commas : {A : Type 0} (part : A → Rest → Rest) (v : A) (vs : List A) (L : Rest) (xs : List Symbol) → part v (CommasThen part vs L) xs → Commas part (v ∷ vs) L xs
first_commas part v [] L xs a = a
first_commas part v (w ∷ vs) L xs a = a

snoc : {A : Type 0} (xs : List A) (y : A) (ys : List A) → xs ++ y ∷ ys ≡ (xs ++ y ∷ []) ++ ys
snoc xs y ys = sym (append_assoc xs (y ∷ []) ys)

mapped : {A B : Type 0} (f : A → B) (xs : List A) (y : A) (ys : List B) → map f xs ++ f y ∷ ys ≡ map f (xs ++ y ∷ []) ++ ys
mapped f xs y ys = snoc (map f xs) (f y) ys ∙ ap (λ k. k ++ ys) (sym (map-append f xs (y ∷ [])))

slot_after : (slot : Slot) (v : WrittenValue) (r : SlotFill slot) (L : Rest) (xs : List Symbol) → SlotThen slot r L xs →
    (s : AfterFill (filled slot v)) × AfterThen (filled slot v) s L xs × (slot_made slot (value_of v) r ≡ after_made (filled slot v) s)
slot_after (slots.Unnamed values) v r L xs a = (r, a, ap unnamed (mapped value_of values v r))
slot_after (slots.Named pairs name) v r L xs a = (r, a, ap named (mapped pair_of pairs (let p : WrittenPair = record { name = name; value = v } in p) r))

after_slot : (slot : Slot) (v : WrittenValue) (s : AfterFill (filled slot v)) (L : Rest) (xs : List Symbol) → AfterThen (filled slot v) s L xs →
    (r : SlotFill slot) × SlotThen slot r L xs × (slot_made slot (value_of v) r ≡ after_made (filled slot v) s)
after_slot (slots.Unnamed values) v r L xs a = (r, a, ap unnamed (mapped value_of values v r))
after_slot (slots.Named pairs name) v r L xs a = (r, a, ap named (mapped pair_of pairs (let p : WrittenPair = record { name = name; value = v } in p) r))

module _ (x : Symbol) (xs : List Symbol) (square : Bool) (M : Rest) where
  abbrev L : Rest
  L = Mark (bracket square) M

  no_bracket : (k : TokenKind) → x.sign ≡ mark k → (mark (bracket square) ≡ mark k → ⊥) → L (x ∷ xs) → ⊥
  no_bracket k e differ a = differ (sym a.0 ∙ e)

  other : (k : TokenKind) → (mark kinds.OpenBrace ≡ mark k → ⊥) → x.sign ≡ mark k → (v : RawValue) (N : Rest) → ValueThen v N (x ∷ xs) → ⊥
  other k differ e (one w) N a = text_no_mark x k e w N xs a
  other k differ e (array place ws) N a = differ (sym a.0 ∙ e)

  bracket_brace : (round : Bool) → mark kinds.OpenBrace ≡ mark (bracket round) → ⊥
  bracket_brace true e = cc
  bracket_brace false e = cc

  pub bracket_comma : (round : Bool) → mark (bracket round) ≡ mark kinds.Comma → ⊥
  bracket_comma true e = cc
  bracket_comma false e = cc

  bracket_equals : (round : Bool) → mark (bracket round) ≡ mark kinds.Equals → ⊥
  bracket_equals true e = cc
  bracket_equals false e = cc

  -- First, with a Word
  module _ (t : WrittenText) (e : x.sign ≡ word t.bytes) (p : x.place ≡ t.place) where
    first_word_value : (v : RawValue) (vs : List RawValue) → ValueThen v (CommasThen ValueThen vs L) (x ∷ xs) → (s : PhaseFill (phases.Word t)) × PhaseThen (phases.Word t) s L xs × (unnamed (v ∷ vs) ≡ phase_made (phases.Word t) s)
    first_word_value (one w) vs a = let k = text_is x t (inl e, p) w (CommasThen ValueThen vs L) xs a in (inl vs, k.1, ap (λ k. unnamed (one k ∷ vs)) k.0)
    first_word_value (array place ws) vs a = absurd (let m : mark kinds.OpenBrace ≡ word t.bytes = sym a.0 ∙ e in cc)

    first_word_forth : (r : RawParameters) → ParametersThen r L (x ∷ xs) → (s : PhaseFill (phases.Word t)) × PhaseThen (phases.Word t) s L xs × (r ≡ phase_made (phases.Word t) s)
    first_word_forth (unnamed []) a = absurd (let m : mark (bracket square) ≡ word t.bytes = sym a.0 ∙ e in cc)
    first_word_forth (unnamed (v ∷ vs)) a = first_word_value v vs (commas_first ValueThen v vs L (x ∷ xs) a)
    first_word_forth (named []) a = absurd a
    first_word_forth (named (q ∷ qs)) a =
        let k = commas_first PairThen q qs L (x ∷ xs) a in
        let same : q.0 ≡ written_of t = make q.0 t (let n : q.0.bytes ≡ t.bytes = let m : word q.0.bytes ≡ word t.bytes = sym k.0 ∙ e in cc in n) (sym k.1 ∙ p) in
        (inr (q.1, qs), k.2, ap (λ (n : Written). named ((n, q.1) ∷ qs)) same)

    first_word_back : (s : PhaseFill (phases.Word t)) → PhaseThen (phases.Word t) s L xs → (r : RawParameters) × ParametersThen r L (x ∷ xs) × (r ≡ phase_made (phases.Word t) s)
    first_word_back (inl vs) a = (unnamed (one (written_of t) ∷ vs), first_commas ValueThen (one (written_of t)) vs L (x ∷ xs) (inl (e, p, a)), refl)
    first_word_back (inr q) a = (named ((written_of t, q.0) ∷ q.1), first_commas PairThen (written_of t, q.0) q.1 L (x ∷ xs) (e, p, a), refl)

    pub first_word : Phased phases.First (x ∷ xs) (phases.Word t) xs L
    first_word = record { forth = first_word_forth; back = first_word_back }

  -- First, with the front of another value
  module _ (off : (bytes : List ℕ) → x.sign ≡ word bytes → ⊥) (shut : x.sign ≡ mark (bracket square) → ⊥) where
    first_value_forth : (r : RawParameters) → ParametersThen r L (x ∷ xs) → (s : RawValue × List RawValue) × ValueThen s.0 (CommasThen ValueThen s.1 L) (x ∷ xs) × (r ≡ unnamed (s.0 ∷ s.1))
    first_value_forth (unnamed []) a = absurd (shut a.0)
    first_value_forth (unnamed (v ∷ vs)) a = ((v, vs), commas_first ValueThen v vs L (x ∷ xs) a, refl)
    first_value_forth (named []) a = absurd a
    first_value_forth (named (q ∷ qs)) a = let k = commas_first PairThen q qs L (x ∷ xs) a in absurd (off q.0.bytes k.0)

    pub first_value : Phased phases.First (x ∷ xs) (phases.Value (slots.Unnamed [])) (x ∷ xs) L
    first_value = record { forth = first_value_forth; back = λ s a. (unnamed (s.0 ∷ s.1), first_commas ValueThen s.0 s.1 L (x ∷ xs) a, refl) }

  -- Word
  pub word_equals : (t : WrittenText) → x.sign ≡ mark kinds.Equals → Phased (phases.Word t) (x ∷ xs) (phases.Value (slots.Named [] t)) xs L
  word_equals t e = record { forth = forth; back = λ s a. (inr s, (e, a), refl) }
    where
      forth : (r : PhaseFill (phases.Word t)) → PhaseThen (phases.Word t) r L (x ∷ xs) → (s : PhaseFill (phases.Value (slots.Named [] t))) × PhaseThen (phases.Value (slots.Named [] t)) s L xs × (phase_made (phases.Word t) r ≡ phase_made (phases.Value (slots.Named [] t)) s)
      forth (inl []) a = absurd (bracket_equals square (sym a.0 ∙ e))
      forth (inl (v ∷ vs)) a = absurd (let m : mark kinds.Comma ≡ mark kinds.Equals = sym a.0 ∙ e in cc)
      forth (inr q) a = (q, a.1, refl)

  pub word_after : (t : WrittenText) → (x.sign ≡ mark kinds.Equals → ⊥) → Phased (phases.Word t) (x ∷ xs) (phases.After (written.Unnamed (values.One t ∷ []))) (x ∷ xs) L
  word_after t off = record { forth = forth; back = λ s a. (inl s, a, refl) }
    where
      forth : (r : PhaseFill (phases.Word t)) → PhaseThen (phases.Word t) r L (x ∷ xs) → (s : List RawValue) × CommasThen ValueThen s L (x ∷ xs) × (phase_made (phases.Word t) r ≡ unnamed (one (written_of t) ∷ s))
      forth (inl vs) a = (vs, a, refl)
      forth (inr q) a = absurd (off a.0)

  -- Name, with a Word
  pub name_phase : (pairs : List WrittenPair) (t : WrittenText) → x.sign ≡ word t.bytes → x.place ≡ t.place → Phased (phases.Name pairs) (x ∷ xs) (phases.Equals pairs t) xs L
  name_phase pairs t e p = record {
    forth = λ r a. ((r.0.1, r.1), a.2, ap (λ k. named (map pair_of pairs ++ (k, r.0.1) ∷ r.1)) (make r.0.0 t (let k : r.0.0.bytes ≡ t.bytes = let m : word r.0.0.bytes ≡ word t.bytes = sym a.0 ∙ e in cc in k) (sym a.1 ∙ p)));
    back = λ s a. (((written_of t, s.0), s.1), (e, p, a), refl);
  }

  pub equals_phase : (pairs : List WrittenPair) (t : WrittenText) → x.sign ≡ mark kinds.Equals → Phased (phases.Equals pairs t) (x ∷ xs) (phases.Value (slots.Named pairs t)) xs L
  equals_phase pairs t e = record { forth = λ r a. (r, a.1, refl); back = λ s a. (s, (e, a), refl) }

  -- Value, with a text or an opening brace
  value_text_forth : (slot : Slot) (t : WrittenText) (is : IsText x t) (r : PhaseFill (phases.Value slot)) → PhaseThen (phases.Value slot) r L (x ∷ xs) →
      (s : AfterFill (filled slot (values.One t))) × AfterThen (filled slot (values.One t)) s L xs × (slot_made slot r.0 r.1 ≡ after_made (filled slot (values.One t)) s)
  value_text_forth slot t is (one w, r) a =
      let b = text_is x t is w (SlotThen slot r L) xs a in
      let c = slot_after slot (values.One t) r L xs b.1 in (c.0, c.1, ap (λ k. slot_made slot (one k) r) b.0 ∙ c.2)
  value_text_forth slot t is (array place ws, r) a = absurd (mark_no_text x t is kinds.OpenBrace a.0)

  pub value_text : (slot : Slot) (t : WrittenText) → IsText x t → Phased (phases.Value slot) (x ∷ xs) (phases.After (filled slot (values.One t))) xs L
  value_text slot t is = record {
    forth = value_text_forth slot t is;
    back = λ s a. let b = after_slot slot (values.One t) s L xs a in ((one (written_of t), b.0), is_text x t is (SlotThen slot b.0 L) xs b.1, b.2);
  }

  abbrev empty_array : Slot → ℕ → Array
  empty_array slot place = record { slot = slot; place = place; texts = [] }

  value_brace_forth : (slot : Slot) (place : ℕ) → x.sign ≡ mark kinds.OpenBrace → x.place ≡ place → (r : PhaseFill (phases.Value slot)) → PhaseThen (phases.Value slot) r L (x ∷ xs) →
      (s : PhaseFill (phases.Texts (empty_array slot place))) × PhaseThen (phases.Texts (empty_array slot place)) s L xs × (slot_made slot r.0 r.1 ≡ phase_made (phases.Texts (empty_array slot place)) s)
  value_brace_forth slot place e p (one w, r) a = absurd (text_no_mark x kinds.OpenBrace e w (SlotThen slot r L) xs a)
  value_brace_forth slot place e p (array q ws, r) a = ((ws, r), a.2, ap (λ k. slot_made slot (array k ws) r) (sym a.1 ∙ p))

  pub value_brace : (slot : Slot) (place : ℕ) → x.sign ≡ mark kinds.OpenBrace → x.place ≡ place → Phased (phases.Value slot) (x ∷ xs) (phases.Texts (empty_array slot place)) xs L
  value_brace slot place e p = record { forth = value_brace_forth slot place e p; back = λ s a. ((array place s.0, s.1), (e, p, a), refl) }

  -- After, with a comma
  pub after_values : (vs : List WrittenValue) → x.sign ≡ mark kinds.Comma → (mark (bracket square) ≡ mark kinds.Comma → ⊥) → Phased (phases.After (written.Unnamed vs)) (x ∷ xs) (phases.Value (slots.Unnamed vs)) xs L
  after_values vs e differ = record { forth = forth; back = λ s a. (s.0 ∷ s.1, (e, first_commas ValueThen s.0 s.1 L xs a), refl) }
    where
      forth : (r : List RawValue) → CommasThen ValueThen r L (x ∷ xs) → (s : RawValue × List RawValue) × ValueThen s.0 (CommasThen ValueThen s.1 L) xs × (unnamed (map value_of vs ++ r) ≡ unnamed (map value_of vs ++ s.0 ∷ s.1))
      forth [] a = absurd (no_bracket kinds.Comma e differ a)
      forth (v ∷ r) a = ((v, r), commas_first ValueThen v r L xs a.1, refl)

  pub after_pairs : (ps : List WrittenPair) → x.sign ≡ mark kinds.Comma → (mark (bracket square) ≡ mark kinds.Comma → ⊥) → Phased (phases.After (written.Named ps)) (x ∷ xs) (phases.Name ps) xs L
  after_pairs ps e differ = record { forth = forth; back = λ s a. (s.0 ∷ s.1, (e, first_commas PairThen s.0 s.1 L xs a), refl) }
    where
      forth : (r : List (Written × RawValue)) → CommasThen PairThen r L (x ∷ xs) → (s : (Written × RawValue) × List (Written × RawValue)) × PairThen s.0 (CommasThen PairThen s.1 L) xs × (named (map pair_of ps ++ r) ≡ named (map pair_of ps ++ s.0 ∷ s.1))
      forth [] a = absurd (no_bracket kinds.Comma e differ a)
      forth (p ∷ r) a = ((p, r), commas_first PairThen p r L xs a.1, refl)

  -- refusals
  pub value_no : (slot : Slot) → (x.sign ≡ mark kinds.OpenBrace → ⊥) → ((bytes : List ℕ) → x.sign ≡ word bytes → ⊥) → ((bytes : List ℕ) → x.sign ≡ quoted bytes → ⊥) → (r : PhaseFill (phases.Value slot)) → PhaseThen (phases.Value slot) r L (x ∷ xs) → ⊥
  value_no slot brace a_word a_quoted (one w, r) (inl a) = a_word w.bytes a.0
  value_no slot brace a_word a_quoted (one w, r) (inr a) = a_quoted w.bytes a.0
  value_no slot brace a_word a_quoted (array place ws, r) a = brace a.0

  pub after_no : (ps : WrittenParameters) → (x.sign ≡ mark kinds.Comma → ⊥) → (x.sign ≡ mark (bracket square) → ⊥) → (r : AfterFill ps) → AfterThen ps r L (x ∷ xs) → ⊥
  after_no (written.Unnamed vs) comma shut [] a = shut a.0
  after_no (written.Unnamed vs) comma shut (v ∷ r) a = comma a.0
  after_no (written.Named ps) comma shut [] a = shut a.0
  after_no (written.Named ps) comma shut (p ∷ r) a = comma a.0

  pub after_text_no : (a : Array) → (x.sign ≡ mark kinds.Comma → ⊥) → (x.sign ≡ mark kinds.CloseBrace → ⊥) → (r : PhaseFill (phases.AfterText a)) → PhaseThen (phases.AfterText a) r L (x ∷ xs) → ⊥
  after_text_no a comma brace ([], r) b = brace b.0
  after_text_no a comma brace (w ∷ ws, r) b = comma b.0

  -- the closing bracket
  pub first_shut : x.sign ≡ mark (bracket square) → Shut x xs square M phases.First (unnamed [])
  first_shut e = record { forth = forth; back = λ m. (unnamed [], (e, m), refl) }
    where
      forth : (r : RawParameters) → ParametersThen r L (x ∷ xs) → M xs × (r ≡ unnamed [])
      forth (unnamed []) a = (a.1, refl)
      forth (unnamed (v ∷ vs)) a = absurd (other (bracket square) (bracket_brace square) e v (CommasThen ValueThen vs L) (commas_first ValueThen v vs L (x ∷ xs) a))
      forth (named []) a = absurd a
      forth (named (q ∷ qs)) a = absurd (let k = commas_first PairThen q qs L (x ∷ xs) a in let m : word q.0.bytes ≡ mark (bracket square) = sym k.0 ∙ e in cc)

  after_shut_forth : (ps : WrittenParameters) → x.sign ≡ mark (bracket square) → (r : AfterFill ps) → AfterThen ps r L (x ∷ xs) → M xs × (after_made ps r ≡ parameters_of ps)
  after_shut_forth (written.Unnamed vs) e [] a = (a.1, ap unnamed (append-nil (map value_of vs)))
  after_shut_forth (written.Unnamed vs) e (v ∷ r) a = absurd (bracket_comma square (sym e ∙ a.0))
  after_shut_forth (written.Named qs) e [] a = (a.1, ap named (append-nil (map pair_of qs)))
  after_shut_forth (written.Named qs) e (q ∷ r) a = absurd (bracket_comma square (sym e ∙ a.0))

  after_shut_back : (ps : WrittenParameters) → x.sign ≡ mark (bracket square) → M xs → (r : AfterFill ps) × AfterThen ps r L (x ∷ xs) × (after_made ps r ≡ parameters_of ps)
  after_shut_back (written.Unnamed vs) e m = ([], (e, m), ap unnamed (append-nil (map value_of vs)))
  after_shut_back (written.Named qs) e m = ([], (e, m), ap named (append-nil (map pair_of qs)))

  pub after_shut : (ps : WrittenParameters) → x.sign ≡ mark (bracket square) → Shut x xs square M (phases.After ps) (parameters_of ps)
  after_shut ps e = record { forth = after_shut_forth ps e; back = after_shut_back ps e }

  -- the texts of an array
  abbrev with_text : Array → WrittenText → Array
  with_text a t = record { slot = a.slot; place = a.place; texts = a.texts ++ t ∷ [] }

  grown : (a : Array) (t : WrittenText) (ws : List Written) (r : SlotFill a.slot) →
      slot_made a.slot (array a.place (map written_of a.texts ++ written_of t ∷ ws)) r ≡ slot_made a.slot (array a.place (map written_of (a.texts ++ t ∷ []) ++ ws)) r
  grown a t ws r = ap (λ k. slot_made a.slot (array a.place k) r) (mapped written_of a.texts t ws)

  texts_text_forth : (a : Array) (t : WrittenText) → IsText x t → (r : PhaseFill (phases.Texts a)) → PhaseThen (phases.Texts a) r L (x ∷ xs) →
      (s : PhaseFill (phases.AfterText (with_text a t))) × PhaseThen (phases.AfterText (with_text a t)) s L xs × (phase_made (phases.Texts a) r ≡ phase_made (phases.AfterText (with_text a t)) s)
  texts_text_forth a t is ([], r) b = absurd (mark_no_text x t is kinds.CloseBrace b.0)
  texts_text_forth a t is (w ∷ ws, r) b =
      let N : Rest = Mark kinds.CloseBrace (SlotThen a.slot r L) in
      let k = text_is x t is w (CommasThen TextThen ws N) xs (commas_first TextThen w ws N (x ∷ xs) b) in
      ((ws, r), k.1, ap (λ n. slot_made a.slot (array a.place (map written_of a.texts ++ n ∷ ws)) r) k.0 ∙ grown a t ws r)

  pub texts_text : (a : Array) (t : WrittenText) → IsText x t → Phased (phases.Texts a) (x ∷ xs) (phases.AfterText (with_text a t)) xs L
  texts_text a t is = record {
    forth = texts_text_forth a t is;
    back = λ s b. ((written_of t ∷ s.0, s.1), first_commas TextThen (written_of t) s.0 (Mark kinds.CloseBrace (SlotThen a.slot s.1 L)) (x ∷ xs) (is_text x t is (CommasThen TextThen s.0 (Mark kinds.CloseBrace (SlotThen a.slot s.1 L))) xs b), grown a t s.0 s.1);
  }

  pub text_text : (a : Array) (t : WrittenText) → IsText x t → Phased (phases.Text a) (x ∷ xs) (phases.AfterText (with_text a t)) xs L
  text_text a t is = record {
    forth = λ r b. let k = text_is x t is r.0 (CommasThen TextThen r.1 (Mark kinds.CloseBrace (SlotThen a.slot r.2 L))) xs b in
        ((r.1, r.2), k.1, ap (λ n. slot_made a.slot (array a.place (map written_of a.texts ++ n ∷ r.1)) r.2) k.0 ∙ grown a t r.1 r.2);
    back = λ s b. ((written_of t, s.0, s.1), is_text x t is (CommasThen TextThen s.0 (Mark kinds.CloseBrace (SlotThen a.slot s.1 L))) xs b, grown a t s.0 s.1);
  }

  pub text_comma : (a : Array) → x.sign ≡ mark kinds.Comma → Phased (phases.AfterText a) (x ∷ xs) (phases.Text a) xs L
  text_comma a e = record { forth = forth; back = λ s b. ((s.0 ∷ s.1, s.2), (e, first_commas TextThen s.0 s.1 (Mark kinds.CloseBrace (SlotThen a.slot s.2 L)) xs b), refl) }
    where
      forth : (r : PhaseFill (phases.AfterText a)) → PhaseThen (phases.AfterText a) r L (x ∷ xs) → (s : PhaseFill (phases.Text a)) × PhaseThen (phases.Text a) s L xs × (phase_made (phases.AfterText a) r ≡ phase_made (phases.Text a) s)
      forth ([], r) b = absurd (let m : mark kinds.CloseBrace ≡ mark kinds.Comma = sym b.0 ∙ e in cc)
      forth (w ∷ ws, r) b = ((w, ws, r), commas_first TextThen w ws (Mark kinds.CloseBrace (SlotThen a.slot r L)) xs b.1, refl)

  abbrev whole_array : Array → WrittenValue
  whole_array a = values.Array a.place a.texts

  array_after : (a : Array) (r : SlotFill a.slot) → SlotThen a.slot r L xs → (s : AfterFill (filled a.slot (whole_array a))) × AfterThen (filled a.slot (whole_array a)) s L xs ×
      (slot_made a.slot (array a.place (map written_of a.texts ++ [])) r ≡ after_made (filled a.slot (whole_array a)) s)
  array_after a r b = let c = slot_after a.slot (whole_array a) r L xs b in (c.0, c.1, ap (λ k. slot_made a.slot (array a.place k) r) (append-nil (map written_of a.texts)) ∙ c.2)

  after_array : (a : Array) (s : AfterFill (filled a.slot (whole_array a))) → AfterThen (filled a.slot (whole_array a)) s L xs → (r : SlotFill a.slot) × SlotThen a.slot r L xs ×
      (slot_made a.slot (array a.place (map written_of a.texts ++ [])) r ≡ after_made (filled a.slot (whole_array a)) s)
  after_array a s b = let c = after_slot a.slot (whole_array a) s L xs b in (c.0, c.1, ap (λ k. slot_made a.slot (array a.place k) c.0) (append-nil (map written_of a.texts)) ∙ c.2)

  pub texts_brace : (a : Array) → x.sign ≡ mark kinds.CloseBrace → Phased (phases.Texts a) (x ∷ xs) (phases.After (filled a.slot (whole_array a))) xs L
  texts_brace a e = record { forth = forth; back = λ s b. let c = after_array a s b in (([], c.0), (e, c.1), c.2) }
    where
      forth : (r : PhaseFill (phases.Texts a)) → PhaseThen (phases.Texts a) r L (x ∷ xs) → (s : AfterFill (filled a.slot (whole_array a))) × AfterThen (filled a.slot (whole_array a)) s L xs × (phase_made (phases.Texts a) r ≡ after_made (filled a.slot (whole_array a)) s)
      forth ([], r) b = array_after a r b.1
      forth (w ∷ ws, r) b = absurd (text_no_mark x kinds.CloseBrace e w (CommasThen TextThen ws (Mark kinds.CloseBrace (SlotThen a.slot r L))) xs (commas_first TextThen w ws (Mark kinds.CloseBrace (SlotThen a.slot r L)) (x ∷ xs) b))

  pub text_brace : (a : Array) → x.sign ≡ mark kinds.CloseBrace → Phased (phases.AfterText a) (x ∷ xs) (phases.After (filled a.slot (whole_array a))) xs L
  text_brace a e = record { forth = forth; back = λ s b. let c = after_array a s b in (([], c.0), (e, c.1), c.2) }
    where
      forth : (r : PhaseFill (phases.AfterText a)) → PhaseThen (phases.AfterText a) r L (x ∷ xs) → (s : AfterFill (filled a.slot (whole_array a))) × AfterThen (filled a.slot (whole_array a)) s L xs × (phase_made (phases.AfterText a) r ≡ after_made (filled a.slot (whole_array a)) s)
      forth ([], r) b = array_after a r b.1
      forth (w ∷ ws, r) b = absurd (let m : mark kinds.Comma ≡ mark kinds.CloseBrace = sym b.0 ∙ e in cc)

pub texts_as_text : (x : Symbol) (xs : List Symbol) (square : Bool) (M : Rest) (a : Array) → (x.sign ≡ mark kinds.CloseBrace → ⊥) → Phased (phases.Texts a) (x ∷ xs) (phases.Text a) (x ∷ xs) (Mark (bracket square) M)
texts_as_text x xs square M a off = record { forth = forth; back = λ s b. ((s.0 ∷ s.1, s.2), first_commas TextThen s.0 s.1 (Mark kinds.CloseBrace (SlotThen a.slot s.2 (Mark (bracket square) M))) (x ∷ xs) b, refl) }
  where
    forth : (r : PhaseFill (phases.Texts a)) → PhaseThen (phases.Texts a) r (Mark (bracket square) M) (x ∷ xs) → (s : PhaseFill (phases.Text a)) × PhaseThen (phases.Text a) s (Mark (bracket square) M) (x ∷ xs) × (phase_made (phases.Texts a) r ≡ phase_made (phases.Text a) s)
    forth ([], r) b = absurd (off b.0)
    forth (w ∷ ws, r) b = ((w, ws, r), commas_first TextThen w ws (Mark kinds.CloseBrace (SlotThen a.slot r (Mark (bracket square) M))) (x ∷ xs) b, refl)

pub array_eq : (a : Array) (slot : Slot) (place : ℕ) (texts : List WrittenText) → a.slot ≡ slot → a.place ≡ place → a.texts ≡ texts → a ≡ record { slot = slot; place = place; texts = texts }
array_eq a slot place texts e f g =
    ap (λ (s : Slot). let r : Array = record { slot = s; place = a.place; texts = a.texts } in r) e
    ∙ (ap (λ (p : ℕ). let r : Array = record { slot = slot; place = p; texts = a.texts } in r) f
    ∙ ap (λ (t : List WrittenText). let r : Array = record { slot = slot; place = place; texts = t } in r) g)

-- from the phase to the goals
part_eq : (h : Heading) (p q : RawParameters) (r : RoleFill h.role) (rest : List RawPart) → p ≡ q → role_parts h.role (call_named h.name p) r ++ rest ≡ role_parts h.role (call_named h.name q) r ++ rest
part_eq h p q r rest e = ap (λ k. role_parts h.role (call_named h.name k) r ++ rest) e

module _ (square : Bool) (phase : Phase) (x : Symbol) where
  pub at : (next : Phase) → ((xs : List Symbol) (M : Rest) → Phased phase (x ∷ xs) next xs (Mark (bracket square) M)) → PhaseTakes square phase x (places.At next)
  at next p h e gs free then shape = record { shaped = shape; same = λ d xs. record { forth = forth d xs; back = back d xs } }
    where
      forth : (d : ℕ) (xs : List Symbol) → Turns d (Parameters h phase ∷ gs) free (x ∷ xs) (Parameters h next ∷ gs) then xs []
      forth d xs ((f, r), rs) w a =
          let M : Rest = RoleThen h.role r (AllThen gs rs) in
          let m = (p xs M).forth f (subst (λ k. PhaseThen phase f (Mark (bracket k) M) (x ∷ xs)) e a) in
          (((m.0, r), rs), w, subst (λ k. PhaseThen next m.0 (Mark (bracket k) M) xs) (sym e) m.1, part_eq h _ _ r (all_parts gs rs) m.2)

      back : (d : ℕ) (xs : List Symbol) → Returns d (Parameters h phase ∷ gs) free (x ∷ xs) (Parameters h next ∷ gs) then xs []
      back d xs ((f, r), rs) w a =
          let M : Rest = RoleThen h.role r (AllThen gs rs) in
          let m = (p xs M).back f (subst (λ k. PhaseThen next f (Mark (bracket k) M) xs) e a) in
          (((m.0, r), rs), w, subst (λ k. PhaseThen phase m.0 (Mark (bracket k) M) (x ∷ xs)) (sym e) m.1, part_eq h _ _ r (all_parts gs rs) m.2)

  role_shaped : (role : Role) (call : Call) (gs : List Goal) → Behind (role_stage role) gs → Shaped gs → Shaped (role_goals role call gs)
  role_shaped Test call gs b s = s
  role_shaped Handler call gs b s = s
  role_shaped (Front levels) call gs b s = (b, s)

  role_forth : (role : Role) (call : Call) (gs : List Goal) (d : ℕ) (xs : List Symbol) (r : RoleFill role) (rs : Fills gs) → RoleWithin d role r → AllWithin d gs rs → RoleThen role r (AllThen gs rs) xs →
      (ss : Fills (role_goals role call gs)) × AllWithin d (role_goals role call gs) ss × AllThen (role_goals role call gs) ss false xs × (role_parts role (call_of call) r ++ all_parts gs rs ≡ role_told role call ++ all_parts (role_goals role call gs) ss)
  role_forth Test call gs d xs r rs v w a = (rs, w, a, refl)
  role_forth Handler call gs d xs r rs v w a = (rs, w, a, refl)
  role_forth (Front levels) call gs d xs r rs v w a = ((r, rs), (v, w), a, refl)

  role_back : (role : Role) (call : Call) (gs : List Goal) (d : ℕ) (xs : List Symbol) (ss : Fills (role_goals role call gs)) → AllWithin d (role_goals role call gs) ss → AllThen (role_goals role call gs) ss false xs →
      (r : RoleFill role) × (rs : Fills gs) × RoleWithin d role r × AllWithin d gs rs × RoleThen role r (AllThen gs rs) xs × (role_parts role (call_of call) r ++ all_parts gs rs ≡ role_told role call ++ all_parts (role_goals role call gs) ss)
  role_back Test call gs d xs ss w a = (tt, ss, tt, w, a, refl)
  role_back Handler call gs d xs ss w a = (tt, ss, tt, w, a, refl)
  role_back (Front levels) call gs d xs (r, rs) w a = (r, rs, w.0, w.1, a, refl)

  pub over : (ps : WrittenParameters) → ((xs : List Symbol) (M : Rest) → Shut x xs square M phase (parameters_of ps)) → PhaseTakes square phase x (places.Over ps)
  over ps p h e gs free shape = record { shaped = role_shaped h.role (call_with h ps) gs shape.0 shape.1; same = λ d xs. record { forth = forth d xs; back = back d xs } }
    where
      forth : (d : ℕ) (xs : List Symbol) → Turns d (Parameters h phase ∷ gs) free (x ∷ xs) (role_goals h.role (call_with h ps) gs) false xs (role_told h.role (call_with h ps))
      forth d xs ((f, r), rs) w a =
          let M : Rest = RoleThen h.role r (AllThen gs rs) in
          let m = (p xs M).forth f (subst (λ k. PhaseThen phase f (Mark (bracket k) M) (x ∷ xs)) e a) in
          let n = role_forth h.role (call_with h ps) gs d xs r rs w.0 w.1 m.0 in
          (n.0, n.1, n.2, part_eq h _ _ r (all_parts gs rs) m.1 ∙ n.3)

      back : (d : ℕ) (xs : List Symbol) → Returns d (Parameters h phase ∷ gs) free (x ∷ xs) (role_goals h.role (call_with h ps) gs) false xs (role_told h.role (call_with h ps))
      back d xs ss w a =
          let n = role_back h.role (call_with h ps) gs d xs ss w a in
          let M : Rest = RoleThen h.role n.0 (AllThen gs n.1) in
          let m = (p xs M).back n.4 in
          (((m.0, n.0), n.1), (n.2, n.3), subst (λ k. PhaseThen phase m.0 (Mark (bracket k) M) (x ∷ xs)) (sym e) m.1, part_eq h _ _ n.0 (all_parts gs n.1) m.2 ∙ n.5)

  pub stop : ((xs : List Symbol) (M : Rest) (f : PhaseFill phase) → PhaseThen phase f (Mark (bracket square) M) (x ∷ xs) → ⊥) → PhaseStops square phase x (faults.Unexpected x.place)
  stop never = (refl, λ h e gs free d xs a. never xs (RoleThen h.role a.0.0.1 (AllThen gs a.0.1)) a.0.0.0 (subst (λ k. PhaseThen phase a.0.0.0 (Mark (bracket k) (RoleThen h.role a.0.0.1 (AllThen gs a.0.1))) (x ∷ xs)) e a.2))

  -- a step that takes no token, and then one that does
  module _ (mid : Phase) (first : (xs : List Symbol) (M : Rest) → Phased phase (x ∷ xs) mid (x ∷ xs) (Mark (bracket square) M)) where
    turn : (h : Heading) → h.square ≡ square → (gs : List Goal) (free : Bool) (d : ℕ) (xs : List Symbol) → Turns d (Parameters h phase ∷ gs) free (x ∷ xs) (Parameters h mid ∷ gs) free (x ∷ xs) []
    turn h e gs free d xs ((f, r), rs) w a =
        let M : Rest = RoleThen h.role r (AllThen gs rs) in
        let m = (first xs M).forth f (subst (λ k. PhaseThen phase f (Mark (bracket k) M) (x ∷ xs)) e a) in
        (((m.0, r), rs), w, subst (λ k. PhaseThen mid m.0 (Mark (bracket k) M) (x ∷ xs)) (sym e) m.1, part_eq h _ _ r (all_parts gs rs) m.2)

    turn_back : (h : Heading) → h.square ≡ square → (gs : List Goal) (free : Bool) (d : ℕ) (xs : List Symbol) → Returns d (Parameters h phase ∷ gs) free (x ∷ xs) (Parameters h mid ∷ gs) free (x ∷ xs) []
    turn_back h e gs free d xs ((f, r), rs) w a =
        let M : Rest = RoleThen h.role r (AllThen gs rs) in
        let m = (first xs M).back f (subst (λ k. PhaseThen mid f (Mark (bracket k) M) (x ∷ xs)) e a) in
        (((m.0, r), rs), w, subst (λ k. PhaseThen phase m.0 (Mark (bracket k) M) (x ∷ xs)) (sym e) m.1, part_eq h _ _ r (all_parts gs rs) m.2)

    behind : (h : Heading) → h.square ≡ square → (gs : List Goal) (free then : Bool) (hs : List Goal) (more : List RawPart) → Moved (Parameters h mid ∷ gs) free x hs then more → Moved (Parameters h phase ∷ gs) free x hs then more
    behind h e gs free then hs more m = record {
      shaped = m.shaped;
      same = λ d xs. record {
        forth = λ rs w a. let f = turn h e gs free d xs rs w a in let g = (m.same d xs).forth f.0 f.1 f.2 in (g.0, g.1, g.2, f.3 ∙ g.3);
        back = λ ss w a. let g = (m.same d xs).back ss w a in let f = turn_back h e gs free d xs g.0 g.1 g.2 in (f.0, f.1, f.2, f.3 ∙ g.3);
      };
    }

    pub place_then : (p : Place) → PhaseTakes square mid x p → PhaseTakes square phase x p
    place_then (places.At next) p = λ h e gs free then shape. behind h e gs free then (Parameters h next ∷ gs) [] (p h e gs free then shape)
    place_then (places.Over ps) p = λ h e gs free shape. behind h e gs free false (role_goals h.role (call_with h ps) gs) (role_told h.role (call_with h ps)) (p h e gs free shape)

    pub stop_then : (e : ParseFault) → PhaseStops square mid x e → PhaseStops square phase x e
    stop_then (faults.Unexpected place) s = (s.0, λ h e gs free d xs a. let f = turn h e gs free d xs a.0 a.1 a.2 in s.1 h e gs free d xs (f.0, f.1, f.2))
    stop_then faults.NoMemory s = tt
    stop_then (faults.TooDeep place) s = s
    stop_then (faults.UnknownName place) s = s
    stop_then (faults.BadParameter place) s = s
    stop_then (faults.BadAttribute place) s = s
    stop_then (faults.BadTarget place) s = s
    stop_then (faults.TooManyLimits place) s = s

pub result_then : (r : Result Place ParseFault) (P Q : Place → Type 0) → ((p : Place) → P p → Q p) → IfOk r P → IfOk r Q
result_then (Ok p) P Q f a = f p a
result_then (Err e) P Q f a = a

pub fault_then : (r : Result Place ParseFault) (P Q : ParseFault → Type 0) → ((e : ParseFault) → P e → Q e) → IfErr r P → IfErr r Q
fault_then (Ok p) P Q f a = a
fault_then (Err e) P Q f a = f e a

pub shuts_sign : (look : Look) (square : Bool) (s : Sign) → shuts look square ≡ true → Shows look s → s ≡ mark (bracket square)
shuts_sign looks.CloseRound false s e shows = shows
shuts_sign looks.CloseRound true s e shows = absurd cc
shuts_sign looks.CloseSquare true s e shows = shows
shuts_sign looks.CloseSquare false s e shows = absurd cc
shuts_sign look square s e shows = absurd cc

pub shuts_no : (look : Look) (square : Bool) (s : Sign) → shuts look square ≡ false → Shows look s → s ≡ mark (bracket square) → ⊥
shuts_no look true s off shows e = let f : true ≡ false = ap (λ k. shuts k true) (same_look looks.CloseSquare look s e shows) ∙ off in cc
shuts_no look false s off shows e = let f : true ≡ false = ap (λ k. shuts k false) (same_look looks.CloseRound look s e shows) ∙ off in cc
