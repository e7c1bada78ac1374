-- Something may follow any goals.
use Rattle.std.specs.Prelude.{◌≡◌, ℕ, Bool, true, false, None, List, [], ◌∷◌, codes}
use Rattle.std.proofs.Common.{refl}
use mathlib.Core.Logic.{inl}
use Rattle.tow_language.specs.declared.token.TokenKind.{TokenKind}
use Rattle.tow_language.specs.declared.token.TokenKind.TheVariants.{Newline, Equals, CloseRound, CloseSquare, CloseBrace, Arrow}
use Rattle.tow_language.specs.Raw.{Written, one, unnamed, RawCall, test, done, act, none}
use Rattle.tow_language.specs.Symbols.{Sign, word, mark, Symbol}
use Rattle.tow_language.specs.Grammar.{Rest, Mark, TextThen, CallThen, TargetThen, SeparatorsThen}
use Rattle.tow_fit.specs.declared.call.WrittenParameters.TheVariants as written
use Rattle.tow_parse.specs.declared.goal.Goal.{Goal}
use Rattle.tow_parse.specs.declared.goal.Goal.TheVariants.{Statements, Statement, Factor, Joined, Target, Else, Told, Called, Named, Parameters}
use Rattle.tow_parse.specs.declared.goal.Role.{Role}
use Rattle.tow_parse.specs.declared.goal.Role.TheVariants.{Test, Handler, Front}
use Rattle.tow_parse.specs.declared.goal.Slot.{Slot}
use Rattle.tow_parse.specs.declared.goal.Slot.TheVariants as slots
use Rattle.tow_parse.specs.declared.goal.Phase.{Phase}
use Rattle.tow_parse.specs.declared.goal.Phase.TheVariants as phases
use Rattle.tow_parse.specs.Follows.{Onward, RoleFill, RoleThen, RoleWithin, Fills, AllThen, AllWithin, Follows, ending, bracket, MaybeThen}
use Rattle.tow_parse.specs.Phases.{PhaseFill, PhaseThen, SlotFill, SlotThen}
use Rattle.tow_parse.specs.Moves.{OneLine}

abbrev pub at_zero : Sign → Symbol
at_zero s = record { sign = s; place = 0 }

-- some symbols of one line
abbrev pub On : Rest → Type 0
On L = (xs : List Symbol) × OneLine xs × L xs

pub marked : (k : TokenKind) (L : Rest) → (mark k ≡ mark Newline → ⊥) → On L → On (Mark k L)
marked k L off on = (at_zero (mark k) ∷ on.0, (off, on.1), (refl, on.2))

abbrev x_text : Written
x_text = record { bytes = codes "x"; place = 0 }

abbrev pub x_call : RawCall
x_call = record { name = x_text; parameters = unnamed [] }

x_line : word (codes "x") ≡ mark Newline → ⊥
x_line e = cc

done_line : word (codes "done") ≡ mark Newline → ⊥
done_line e = cc

text_on : (L : Rest) → On L → On (TextThen x_text L)
text_on L on = (at_zero (word (codes "x")) ∷ on.0, (x_line, on.1), inl (refl, refl, on.2))

pub call_on : (L : Rest) → On L → On (CallThen x_call L)
call_on L on = (at_zero (word (codes "x")) ∷ on.0, (x_line, on.1), (refl, (refl, refl, inl (refl, on.2))))

pub done_on : (L : Rest) → On L → On (TargetThen done L)
done_on L on = (at_zero (word (codes "done")) ∷ on.0, (done_line, on.1), (refl, on.2))

closing_on : (square : Bool) (L : Rest) → On L → On (Mark (bracket square) L)
closing_on true L on = marked CloseSquare L (λ e. cc) on
closing_on false L on = marked CloseRound L (λ e. cc) on

ending_on : (grouped : Bool) (L : Rest) → On L → On (Mark (ending grouped) L)
ending_on true L on = marked CloseRound L (λ e. cc) on
ending_on false L on = marked Arrow L (λ e. cc) on

role_on : (d : ℕ) (role : Role) (K : Onward) → On (K false) → (r : RoleFill role) × RoleWithin d role r × On (RoleThen role r K)
role_on d Test K on = (tt, tt, on)
role_on d Handler K on = (tt, tt, on)
role_on d (Front levels) K on = (None, tt, on)

slot_on : (slot : Slot) (L : Rest) → On L → (r : SlotFill slot) × On (SlotThen slot r L)
slot_on (slots.Unnamed values) L on = ([], on)
slot_on (slots.Named pairs name) L on = ([], on)

phase_on : (phase : Phase) (L : Rest) → On L → (r : PhaseFill phase) × On (PhaseThen phase r L)
phase_on phases.First L on = (unnamed [], on)
phase_on (phases.Word w) L on = (inl [], on)
phase_on (phases.Value slot) L on = let s = slot_on slot L on in ((one x_text, s.0), text_on _ s.1)
phase_on (phases.Name pairs) L on =
    let equals = marked Equals (TextThen x_text L) (λ e. cc) (text_on L on) in
    (((x_text, one x_text), []), (at_zero (word (codes "x")) ∷ equals.0, (x_line, equals.1), (refl, refl, equals.2)))
phase_on (phases.Equals pairs name) L on = ((one x_text, []), marked Equals (TextThen x_text L) (λ e. cc) (text_on L on))
phase_on (phases.After (written.Unnamed values)) L on = ([], on)
phase_on (phases.After (written.Named pairs)) L on = ([], on)
phase_on (phases.Texts a) L on = let s = slot_on a.slot L on in (([], s.0), marked CloseBrace _ (λ e. cc) s.1)
phase_on (phases.Text a) L on =
    let s = slot_on a.slot L on in ((x_text, [], s.0), text_on _ (marked CloseBrace (SlotThen a.slot s.0 L) (λ e. cc) s.1))
phase_on (phases.AfterText a) L on = let s = slot_on a.slot L on in (([], s.0), marked CloseBrace _ (λ e. cc) s.1)

maybe_on : (arrow : Bool) (L : Rest) → On L → On (MaybeThen arrow L)
maybe_on true L on = (on.0, on.1, inl on.2)
maybe_on false L on = on

pub separators_on : (L : Rest) → On L → On (SeparatorsThen L)
separators_on L on = (on.0, on.1, begin on.0 on.2)
  where
    begin : (xs : List Symbol) → L xs → SeparatorsThen L xs
    begin [] l = l
    begin (x ∷ xs) l = inl l

pub some_on : (d : ℕ) (gs : List Goal) (free : Bool) → (rs : Fills gs) × AllWithin d gs rs × On (AllThen gs rs free)
some_on d [] free = (tt, tt, ([], tt, refl))
some_on d (Statements levels true ∷ gs) free =
    let on = some_on d gs true in ((none, on.0), (tt, on.1), separators_on _ (marked CloseBrace (AllThen gs on.0 true) (λ e. cc) on.2))
some_on d (Statements levels false ∷ gs) free = let on = some_on d gs true in ((none, on.0), (tt, on.1), ([], tt, refl))
some_on d (Statement levels arrow ∷ gs) free =
    let on = some_on d gs false in ((act done, on.0), (tt, on.1), maybe_on arrow _ (done_on (AllThen gs on.0 false) on.2))
some_on d (Factor levels ∷ gs) free = let on = some_on d gs false in ((test x_call, on.0), (tt, on.1), call_on (AllThen gs on.0 false) on.2)
some_on d (Joined levels pending grouped ∷ gs) free =
    let on = some_on d gs false in (((None, None), on.0), ((tt, tt), on.1), ending_on grouped (AllThen gs on.0 false) on.2)
some_on d (Target levels ∷ gs) free = let on = some_on d gs false in ((done, on.0), (tt, on.1), done_on (AllThen gs on.0 false) on.2)
some_on d (Else levels ∷ gs) free = let on = some_on d gs free in ((None, on.0), (tt, on.1), on.2)
some_on d (Told joint ∷ gs) free = let on = some_on d gs free in ((tt, on.0), (tt, on.1), on.2)
some_on d (Called levels call ∷ gs) free = let on = some_on d gs false in ((None, on.0), (tt, on.1), on.2)
some_on d (Named role name ∷ gs) free =
    let on = some_on d gs false in
    let r = role_on d role (AllThen gs on.0) on.2 in
    (((unnamed [], r.0), on.0), (r.1, on.1), (r.2.0, r.2.1, inl (refl, r.2.2)))
some_on d (Parameters heading phase ∷ gs) free =
    let on = some_on d gs false in
    let r = role_on d heading.role (AllThen gs on.0) on.2 in
    let p = phase_on phase (Mark (bracket heading.square) (RoleThen heading.role r.0 (AllThen gs on.0))) (closing_on heading.square _ r.2) in
    (((p.0, r.0), on.0), (r.1, on.1), p.1)

pub goes_on : (d : ℕ) (gs : List Goal) (free : Bool) → (xs : List Symbol) × OneLine xs × Follows d gs free xs
goes_on d gs free = let on = some_on d gs free in (on.2.0, on.2.1, (on.0, on.1, on.2.2))
