-- The field lines of a head, where they stand in the bytes.
use Rattle.std.specs.Prelude.{ℕ, List, [], ◌∷◌, map, if◌then◌else◌, Option, Some, None}
use Rattle.httparse.specs.Spans.{span_bytes}
use Rattle.httparse.specs.declared.spans.HeaderSpan.{HeaderSpan}
use Rattle.tow_model.specs.declared.request.Field.{Field}
use Rattle.tow_model.specs.Texts.{Text}
use Rattle.tow_model.specs.Fields.{field, is_named, elements}

-- the name and the value that a line's spans cover
abbrev pub field_at : List ℕ → HeaderSpan → Field
field_at bytes line = field (span_bytes bytes line.name) (span_bytes bytes line.value)

-- the fields of the lines
abbrev pub fields_at : List ℕ → List HeaderSpan → List Field
fields_at bytes lines = map (field_at bytes) lines

-- the elements of one line, where it has the name
abbrev pub elements_in : Text → Field → List Text
elements_in name f = if is_named name f then elements (f.value ∷ []) else []

-- the first value
abbrev pub first : List Text → Option Text
first [] = None
first (value ∷ values) = Some value

-- the one value, where there is just one
abbrev pub only : List Text → Option Text
only [] = None
only (value ∷ []) = Some value
only (value ∷ other ∷ values) = None
