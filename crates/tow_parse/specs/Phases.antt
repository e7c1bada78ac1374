-- What may follow between the brackets of a call, and the parameters that this makes.
use Rattle.std.specs.Prelude.{◌⊎◌, List, [], ◌∷◌, ◌++◌, map}
use mathlib.Core.Logic.{inl, inr}
use Rattle.tow_language.specs.declared.token.TokenKind.TheVariants.{Comma, Equals, CloseBrace}
use Rattle.tow_language.specs.Raw.{Written, RawValue, one, array, RawParameters, unnamed, named}
use Rattle.tow_language.specs.Grammar.{Rest, Mark, TextThen, Commas, ValueThen, PairThen, ParametersThen}
use Rattle.tow_fit.specs.declared.call.WrittenParameters.{WrittenParameters}
use Rattle.tow_fit.specs.declared.call.WrittenParameters.TheVariants as written
use Rattle.tow_parse.specs.declared.goal.Slot.{Slot}
use Rattle.tow_parse.specs.declared.goal.Slot.TheVariants as slots
use Rattle.tow_parse.specs.declared.goal.Phase.{Phase}
use Rattle.tow_parse.specs.declared.goal.Phase.TheVariants as phases
use Rattle.tow_fit.specs.Calls.{written_of, value_of, pair_of}

-- what is left of some parts with commas between, behind the first
abbrev pub CommasThen : {A : Type 0} → (A → Rest → Rest) → List A → Rest → Rest
CommasThen part [] L = L
CommasThen part (x ∷ xs) L = Mark Comma (Commas part (x ∷ xs) L)

-- the parameters behind a value
abbrev pub AfterFill : WrittenParameters → Type 0
AfterFill (written.Unnamed values) = List RawValue
AfterFill (written.Named pairs) = List (Written × RawValue)

abbrev pub AfterThen : (ps : WrittenParameters) → AfterFill ps → Rest → Rest
AfterThen (written.Unnamed values) r L = CommasThen ValueThen r L
AfterThen (written.Named pairs) r L = CommasThen PairThen r L

abbrev pub after_made : (ps : WrittenParameters) → AfterFill ps → RawParameters
after_made (written.Unnamed values) r = unnamed (map value_of values ++ r)
after_made (written.Named pairs) r = named (map pair_of pairs ++ r)

abbrev pub SlotFill : Slot → Type 0
SlotFill (slots.Unnamed values) = List RawValue
SlotFill (slots.Named pairs name) = List (Written × RawValue)

abbrev pub SlotThen : (slot : Slot) → SlotFill slot → Rest → Rest
SlotThen (slots.Unnamed values) r L = CommasThen ValueThen r L
SlotThen (slots.Named pairs name) r L = CommasThen PairThen r L

abbrev pub slot_made : (slot : Slot) → RawValue → SlotFill slot → RawParameters
slot_made (slots.Unnamed values) v r = unnamed (map value_of values ++ v ∷ r)
slot_made (slots.Named pairs name) v r = named (map pair_of pairs ++ (written_of name, v) ∷ r)

-- what may stand at a place between the brackets
abbrev pub PhaseFill : Phase → Type 0
PhaseFill phases.First = RawParameters
PhaseFill (phases.Word w) = List RawValue ⊎ (RawValue × List (Written × RawValue))
PhaseFill (phases.Value slot) = RawValue × SlotFill slot
PhaseFill (phases.Name pairs) = (Written × RawValue) × List (Written × RawValue)
PhaseFill (phases.Equals pairs name) = RawValue × List (Written × RawValue)
PhaseFill (phases.After ps) = AfterFill ps
PhaseFill (phases.Texts a) = List Written × SlotFill a.slot
PhaseFill (phases.Text a) = Written × List Written × SlotFill a.slot
PhaseFill (phases.AfterText a) = List Written × SlotFill a.slot

abbrev pub BehindWord : List RawValue ⊎ (RawValue × List (Written × RawValue)) → Rest → Rest
BehindWord (inl vs) L = CommasThen ValueThen vs L
BehindWord (inr p) L = Mark Equals (ValueThen p.0 (CommasThen PairThen p.1 L))

abbrev pub PhaseThen : (phase : Phase) → PhaseFill phase → Rest → Rest
PhaseThen phases.First r L = ParametersThen r L
PhaseThen (phases.Word w) r L = BehindWord r L
PhaseThen (phases.Value slot) r L = ValueThen r.0 (SlotThen slot r.1 L)
PhaseThen (phases.Name pairs) r L = PairThen r.0 (CommasThen PairThen r.1 L)
PhaseThen (phases.Equals pairs name) r L = Mark Equals (ValueThen r.0 (CommasThen PairThen r.1 L))
PhaseThen (phases.After ps) r L = AfterThen ps r L
PhaseThen (phases.Texts a) r L = Commas TextThen r.0 (Mark CloseBrace (SlotThen a.slot r.1 L))
PhaseThen (phases.Text a) r L = TextThen r.0 (CommasThen TextThen r.1 (Mark CloseBrace (SlotThen a.slot r.2 L)))
PhaseThen (phases.AfterText a) r L = CommasThen TextThen r.0 (Mark CloseBrace (SlotThen a.slot r.1 L))

abbrev pub word_made : Written → List RawValue ⊎ (RawValue × List (Written × RawValue)) → RawParameters
word_made w (inl vs) = unnamed (one w ∷ vs)
word_made w (inr p) = named ((w, p.0) ∷ p.1)

-- the parameters that it makes
abbrev pub phase_made : (phase : Phase) → PhaseFill phase → RawParameters
phase_made phases.First r = r
phase_made (phases.Word w) r = word_made (written_of w) r
phase_made (phases.Value slot) r = slot_made slot r.0 r.1
phase_made (phases.Name pairs) r = named (map pair_of pairs ++ r.0 ∷ r.1)
phase_made (phases.Equals pairs name) r = named (map pair_of pairs ++ (written_of name, r.0) ∷ r.1)
phase_made (phases.After ps) r = after_made ps r
phase_made (phases.Texts a) r = slot_made a.slot (array a.place (map written_of a.texts ++ r.0)) r.1
phase_made (phases.Text a) r = slot_made a.slot (array a.place (map written_of a.texts ++ r.0 ∷ r.1)) r.2
phase_made (phases.AfterText a) r = slot_made a.slot (array a.place (map written_of a.texts ++ r.0)) r.1
