-- What the answers say of a target and of a template.
use Rattle.std.specs.Prelude.{◌≡◌, false, List, Some, None}
use Rattle.tow_model.specs.declared.predicate.Segment.{Segment}
use Rattle.tow_model.specs.Texts.{Text}
use Rattle.tow_model.specs.Paths.{Place, place_of, template_bindings}
use Rattle.tow_path.specs.Output.{has_dot_segment}
use Rattle.tow_path.specs.declared.target.Target3986.{Target3986}
use Rattle.tow_path.specs.declared.target.Target3986.TheVariants as target
use Rattle.tow_path.specs.declared.template.Bind.{Bind}
use Rattle.tow_path.specs.declared.template.Bind.TheVariants as bind

-- the parts are the place, as they are where memory is not short
abbrev pub Names : Place → Target3986 → Type 0
Names place (target.Parts url path query) = place ≡ record { url = url; path = path; query = query }
Names place target.Bad = ⊥
Names place target.NoMemory = ⊥

-- the parts are those that the target names, and a bad target names nothing
abbrev pub Reads : Text → Text → Target3986 → Type 0
Reads method text (target.Parts url path query) = place_of method text ≡ Some (record { url = url; path = path; query = query })
Reads method text target.Bad = place_of method text ≡ None
Reads method text target.NoMemory = Unit {0}

-- a path that was read has no segment `.` or `..`
abbrev pub IsResolved : Target3986 → Type 0
IsResolved (target.Parts url path query) = has_dot_segment path ≡ false
IsResolved target.Bad = Unit {0}
IsResolved target.NoMemory = Unit {0}

-- the fields are the bindings of the template, and without them it has none
abbrev pub Binds : List Segment → Text → Bind → Type 0
Binds parts value (bind.Yes fields) = template_bindings parts value ≡ Some fields
Binds parts value bind.No = template_bindings parts value ≡ None
Binds parts value bind.NoMemory = Unit {0}
