-- What a token does between the brackets of a call.
use Rattle.std.specs.Prelude.{◌≡◌, ◌⊎◌, ℕ, Bool, false, List, [], ◌∷◌, ◌++◌, ⊤}
use Rattle.tow_language.specs.Symbols.{word, quoted, Symbol}
use Rattle.tow_fit.specs.declared.call.WrittenText.{WrittenText}
use Rattle.tow_fit.specs.declared.call.WrittenValue.{WrittenValue}
use Rattle.tow_fit.specs.declared.call.WrittenPair.{WrittenPair}
use Rattle.tow_fit.specs.declared.call.WrittenParameters.{WrittenParameters}
use Rattle.tow_fit.specs.declared.call.WrittenParameters.TheVariants as written
use Rattle.tow_fit.specs.declared.fault.ParseFault.{ParseFault}
use Rattle.tow_fit.specs.declared.fault.ParseFault.TheVariants.{Unexpected, NoMemory}
use Rattle.tow_parse.specs.declared.goal.Slot.{Slot}
use Rattle.tow_parse.specs.declared.goal.Slot.TheVariants as slots
use Rattle.tow_parse.specs.declared.goal.Phase.{Phase}
use Rattle.tow_parse.specs.declared.phase.Place.{Place}
use Rattle.tow_parse.specs.declared.phase.Place.TheVariants.{At, Over}
use Rattle.tow_fit.specs.declared.call.Call.{Call}
use Rattle.tow_parse.specs.declared.goal.Goal.{Goal}
use Rattle.tow_parse.specs.declared.goal.Goal.TheVariants.{Called, Parameters}
use Rattle.tow_parse.specs.declared.goal.Heading.{Heading}
use Rattle.tow_parse.specs.declared.goal.Role.{Role}
use Rattle.tow_parse.specs.declared.goal.Role.TheVariants.{Test, Handler, Front}
use Rattle.tow_fit.specs.Calls.{call_of}
use Rattle.tow_parse.specs.Follows.{Follows}
use Rattle.tow_parse.specs.Moved.{Moved}
use Rattle.tow_parse.specs.Parts.{RawPart, a_test, a_handler}
use Rattle.tow_parse.specs.Shape.{Shaped}

-- a text, as a Word or as a Quoted
abbrev pub IsText : Symbol → WrittenText → Type 0
IsText x w = ((x.sign ≡ word w.bytes) ⊎ (x.sign ≡ quoted w.bytes)) × (x.place ≡ w.place)

-- a value put into its place
abbrev pub filled : Slot → WrittenValue → WrittenParameters
filled (slots.Unnamed values) v = written.Unnamed (values ++ v ∷ [])
filled (slots.Named pairs name) v = written.Named (pairs ++ (let p : WrittenPair = record { name = name; value = v } in p) ∷ [])

-- the goals and parts that a call leaves
abbrev pub role_goals : Role → Call → List Goal → List Goal
role_goals Test call gs = gs
role_goals Handler call gs = gs
role_goals (Front levels) call gs = Called levels call ∷ gs

abbrev pub role_told : Role → Call → List RawPart
role_told Test call = a_test (call_of call) ∷ []
role_told Handler call = a_handler (call_of call) ∷ []
role_told (Front levels) call = []

abbrev pub call_with : Heading → WrittenParameters → Call
call_with heading ps = record { name = heading.name; parameters = ps }

-- with the symbol x, the phase is over or another
abbrev pub PhaseTakes : Bool → Phase → Symbol → Place → Type 0
PhaseTakes square phase x (At next) =
    (h : Heading) → h.square ≡ square → (gs : List Goal) (free then : Bool) → Shaped (Parameters h phase ∷ gs) → Moved (Parameters h phase ∷ gs) free x (Parameters h next ∷ gs) then []
PhaseTakes square phase x (Over ps) =
    (h : Heading) → h.square ≡ square → (gs : List Goal) (free : Bool) → Shaped (Parameters h phase ∷ gs) →
    Moved (Parameters h phase ∷ gs) free x (role_goals h.role (call_with h ps) gs) false (role_told h.role (call_with h ps))

-- why the symbol x may not follow
abbrev pub PhaseStops : Bool → Phase → Symbol → ParseFault → Type 0
PhaseStops square phase x (Unexpected place) =
    (place ≡ x.place) × ((h : Heading) → h.square ≡ square → (gs : List Goal) (free : Bool) (d : ℕ) (xs : List Symbol) → Follows d (Parameters h phase ∷ gs) free (x ∷ xs) → ⊥)
PhaseStops square phase x NoMemory = ⊤
PhaseStops square phase x fault = ⊥
