-- One part of a path template and the segment that it meets.
use Rattle.std.specs.Prelude.{Bool, not, List, [], ◌∷◌}
use Rattle.std.specs.Str.{bytes_eq}
use Rattle.tow_model.specs.declared.predicate.Segment.{Segment}
use Rattle.tow_model.specs.declared.predicate.Segment.TheVariants.{Fixed, Bind}
use Rattle.tow_model.specs.declared.request.Field.{Field}
use Rattle.tow_model.specs.Texts.{Text, is_empty}
use Rattle.tow_model.specs.Fields.{field}

-- the segment is the fixed one, or is not empty where the part binds it
abbrev pub meets : Segment → Text → Bool
meets (Fixed text) s = bytes_eq s text
meets (Bind name) s = not (is_empty s)

-- what the part binds
abbrev pub bindings : Segment → Text → List Field
bindings (Fixed text) s = []
bindings (Bind name) s = field name s ∷ []
