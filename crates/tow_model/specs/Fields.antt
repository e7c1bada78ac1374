-- Fields of a head, and bindings of a context.
use Rattle.std.specs.Prelude.{Bool, not, List, [], ◌∷◌, ◌++◌, map, filter, find, flat_map, nat_lt, length, Option, option_map}
use Rattle.std.specs.Str.{byte, bytes_eq, str_eq_ignore_ascii_case}
use Rattle.tow_model.specs.declared.request.Field.{Field}
use Rattle.http_header.specs.Token.{lowercase}
use Rattle.tow_model.specs.Texts.{Text, is_empty, cut_at, trimmed}

abbrev pub field : Text → Text → Field
field name value = record { name = name; value = value }

-- names of fields are compared in any case (RFC 9110, section 5.1)
abbrev pub is_named : Text → Field → Bool
is_named name f = str_eq_ignore_ascii_case f.name name

-- the values of the lines of that name, in their order
abbrev pub values_of : Text → List Field → List Text
values_of name fields = map (λ f. f.value) (filter (is_named name) fields)

-- some line has that name
abbrev pub has : Text → List Field → Bool
has name fields = nat_lt 0 (length (values_of name fields))

-- the elements of a list field: its values cut at commas, trimmed, in lower case, empty ones dropped (RFC 9110, section 5.6.1)
abbrev pub elements : List Text → List Text
elements values = filter (λ e. not (is_empty e)) (map (λ e. lowercase (trimmed e)) (flat_map (cut_at (byte ",")) values))

abbrev pub without : Text → List Field → List Field
without name fields = filter (λ f. not (is_named name f)) fields

-- the fields with the one value for the name
abbrev pub set_to : Text → Text → List Field → List Field
set_to name value fields = without name fields ++ field name value ∷ []

-- the context's value of a name, exactly as it is written
abbrev pub bound_to : Text → List Field → Option Text
bound_to name context = option_map (λ f. f.value) (find (λ f. bytes_eq f.name name) context)

abbrev pub unbound : Text → List Field → List Field
unbound name context = filter (λ f. not (bytes_eq f.name name)) context

-- the context with the binding in place of one of that name
abbrev pub bind : Field → List Field → List Field
bind f context = unbound f.name context ++ f ∷ []
