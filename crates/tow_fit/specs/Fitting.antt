-- What a fit has in hand while it reads a call.
use Rattle.std.specs.Prelude.{◌≡◌, ℕ, Bool, false, ◌==◌, ◌&&◌, ◌||◌, nat_le, length, map, List, [], ◌∷◌, ◌++◌, Option, Some, None, Result, Ok, Err, if◌then◌else◌}
use Rattle.tow_language.specs.declared.table.Given.{Given}
use Rattle.tow_language.specs.declared.kind.Kind.TheVariants.{BadParameter, BadTarget}
use Rattle.tow_language.specs.Fit as fits
use Rattle.tow_language.specs.Fit.{TextFault, fault, wanted, ◌>>=◌, place_of, given_of, gathered, paired, unused, found_of}
use Rattle.tow_language.specs.Raw.{Written, RawValue, RawParameters}
use Rattle.tow_language.specs.declared.table.Shape.{Shape}
use Rattle.tow_fit.specs.declared.fitting.parameters.Found.{Found}
use Rattle.tow_language.specs.Shapes.{all_some, binds, is_kept_field, is_name_byte, segment_of}
use Rattle.tow_model.specs.Texts.{cut_at}
use Rattle.tow_model.specs.declared.predicate.Segment.{Segment}
use Rattle.tow_model.specs.declared.predicate.Segment.TheVariants.{Fixed, Bind}
use Rattle.std.specs.List.{list_all, list_any}
use Rattle.tow_language.specs.Signatures.{parameter_as}
use Rattle.tow_language.specs.Table.{Parameter, takes_array}
use Rattle.tow_fit.specs.declared.call.WrittenText.{WrittenText}
use Rattle.tow_fit.specs.declared.fault.ParseFault.{ParseFault}
use Rattle.tow_fit.specs.declared.fitting.rows.Rows.{Rows}
use Rattle.tow_fit.specs.declared.fitting.rows.Rows.TheVariants as rows
use Rattle.tow_fit.specs.Faults.{Fails}

-- a step gives what the definition gives, or stops with its fault
abbrev pub Meets : {A : Type 0} → Result A ParseFault → Result A TextFault → Type 0
Meets (Ok x) defined = defined ≡ Ok x
Meets (Err e) defined = Fails e defined

-- the parameters of a row
abbrev pub rows_of : Rows → List Parameter
rows_of rows.None = []
rows_of (rows.One a) = parameter_as a ∷ []
rows_of (rows.Two a b) = parameter_as a ∷ parameter_as b ∷ []
rows_of (rows.Three a b c) = parameter_as a ∷ parameter_as b ∷ parameter_as c ∷ []

abbrev pub bytes_of : WrittenText → List ℕ
bytes_of text = text.bytes

-- items before those that the rest gives
abbrev pub joined : {A : Type 0} → List A → Result (List A) TextFault → Result (List A) TextFault
joined done (Ok more) = Ok (done ++ more)
joined done (Err e) = Err e

-- the only item of a list
abbrev pub sole : {A : Type 0} → List A → Option A
sole [] = None
sole (x ∷ []) = Some x
sole (x ∷ y ∷ zs) = None

-- the name of a field, unless no text may write it
abbrev pub writable_field : ℕ → List ℕ → Result (List ℕ) TextFault
writable_field place name = if is_kept_field name then fault BadTarget place else Ok name

-- the segments of a path, where each piece between two `/` is one
abbrev pub segments_in : List ℕ → Option (List Segment)
segments_in path = all_some (map segment_of (cut_at 47 path))

-- a text as a segment, unless it has a brace
abbrev pub fixed_segment : List ℕ → Option Segment
fixed_segment text = if list_any (λ b. b == 123 || b == 125) text then None else Some (Fixed text)

-- the name of a segment in braces
abbrev pub bound_segment : List ℕ → Option Segment
bound_segment name = if nat_le 1 (length name) && list_all is_name_byte name then Some (Bind name) else None

-- the part binds a name that one of the parts binds
abbrev pub is_bound_in : Segment → List Segment → Bool
is_bound_in (Fixed bytes) parts = false
is_bound_in (Bind name) parts = list_any (binds name) parts

-- the same, where what the step gives stands for what the definition gives
abbrev pub MeetsBy : {A B : Type 0} → (A → B) → Result A ParseFault → Result B TextFault → Type 0
MeetsBy view (Ok x) defined = defined ≡ Ok (view x)
MeetsBy view (Err e) defined = Fails e defined

abbrev pub found_as : Found → List ℕ × Given
found_as found = (found.row.name.now, found.given)

-- what the written parameters stand for
abbrev pub found_in : List Parameter → RawParameters → Result fits.Found TextFault
found_in qs ps = paired qs ps >>= λ pairs. found_of qs [] pairs

-- what one more parameter stands for, behind those that were found
abbrev pub next_found : List Parameter → fits.Found → Written × RawValue → Result (List ℕ × Given) TextFault
next_found qs found p = do
  q ← wanted (unused qs found p.0.bytes) BadParameter p.0.place
  g ← given_of q.shape p.1
  Ok (q.name, g)

-- values where there is no parameter
abbrev pub none_taken : List RawValue → Result fits.Found TextFault
none_taken [] = Ok []
none_taken (v ∷ vs) = fault BadParameter (place_of v)

-- values as one, where there are any
abbrev pub one_value : Shape → List RawValue → Result (Option RawValue) TextFault
one_value shape [] = Ok None
one_value shape (v ∷ []) = Ok (Some v)
one_value shape (v ∷ w ∷ vs) =
    if takes_array shape then (gathered (place_of v) (v ∷ w ∷ vs) >>= λ a. Ok (Some a)) else fault BadParameter (place_of w)

abbrev pub given_one : Parameter → Option RawValue → Result fits.Found TextFault
given_one q None = Ok []
given_one q (Some v) = given_of q.shape v >>= λ g. Ok ((q.name, g) ∷ [])

-- the values as this parameter
abbrev pub found_at : Parameter → List RawValue → Result fits.Found TextFault
found_at q vs = one_value q.shape vs >>= given_one q
