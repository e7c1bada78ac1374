-- What a write may do.
use Rattle.std.specs.Prelude.{◌≡◌, Bool, Option, Some, None}
use Rattle.tow_model.specs.declared.record.Record.{Record}
use Rattle.tow_model.specs.Texts.{Text}
use Rattle.tow_semantics.specs.Effects.{with_header}
use Rattle.tow_semantics.specs.Writing.{with_fields}
use Rattle.tow_effect.specs.declared.outcome.Assign.{Assign}
use Rattle.tow_effect.specs.declared.outcome.Assign.TheVariants.{Assigned, BadValue, NoMemory}

-- the record changes as it should, or stays as it was if there is no such change or memory is short
abbrev pub Writes : Option Record → Assign → Record → Record → Type 0
Writes changed Assigned old new = changed ≡ Some new
Writes changed BadValue old new = (changed ≡ None) × (new ≡ old)
Writes changed NoMemory old new = new ≡ old

-- the record with the value as the field of that name, or as one more
abbrev pub headed : Bool → Text → Text → Record → Option Record
headed replace name value x = with_fields value (with_header replace name value x.fields) x
