-- What a text writes into the record, and what it refuses to write.
use Rattle.std.specs.Prelude.{ℕ, ◌+◌, ◌-◌, ◌*◌, Bool, not, ◌&&◌, ◌||◌, ◌==◌, nat_le, List, [], ◌∷◌, length, if◌then◌else◌, Option, Some, None, option_map, codes}
use Rattle.std.specs.List.{list_all}
use Rattle.std.specs.Char.{is_ascii_digit}
use Rattle.std.specs.Option.{unwrap_or, option_or}
use Rattle.std.specs.Str.{byte}
use Rattle.http_header.specs.Token.{is_value_byte}
use Rattle.tow_model.specs.declared.request.Field.{Field}
use Rattle.tow_model.specs.declared.record.Record.{Record}
use Rattle.tow_model.specs.declared.limits.TheConstants.{MAX_RESPONSE_FIELDS}
use Rattle.tow_model.specs.declared.action.Target.{Target}
use Rattle.tow_model.specs.declared.action.Target.TheVariants.{RelativePath, Query, Status, ResponseField, Context}
use Rattle.tow_model.specs.Texts.{Text, is_within, before, after}
use Rattle.tow_model.specs.Fields.{field, set_to, without, bind, unbound}
use Rattle.tow_model.specs.Paths.{resolved, rooted}

-- a status that a text may set
abbrev pub is_status : ℕ → Bool
is_status n = is_within 200 599 n && not (n == 205)

-- three digits that are a status
abbrev pub read_status : Text → Option ℕ
read_status (a ∷ b ∷ c ∷ []) =
    let n = 100 * (a - byte "0") + 10 * (b - byte "0") + (c - byte "0") in
    if list_all is_ascii_digit (a ∷ b ∷ c ∷ []) && is_status n then Some n else None
read_status other = None

-- an empty value removes the query; a leading `?` is no part of it
abbrev pub written_query : Text → Option Text
written_query [] = None
written_query (b ∷ bs) = Some (if b == byte "?" then bs else b ∷ bs)

-- the second list has no field more than the first one, or no more than a text may make
abbrev pub is_room : List Field → List Field → Bool
is_room old new = nat_le (length new) (length old) || nat_le (length new) MAX_RESPONSE_FIELDS

-- the record with those response fields, if there is room for them and the value is one (RFC 9110, section 5.5)
abbrev pub with_fields : Text → List Field → Record → Option Record
with_fields value fields x =
    if list_all is_value_byte value && is_room x.fields fields then Some (record x { fields = fields }) else None

-- the record with the value in its target's place, and nothing if the value breaks a rule
abbrev pub assigned : Target → Text → Record → Option Record
assigned RelativePath value x =
    Some (record x { path = resolved (rooted (before (byte "?") value)); query = option_or (after (byte "?") value) x.query })
assigned Query value x = Some (record x { query = written_query value })
assigned Status value x = option_map (λ n. record x { status = n }) (read_status value)
assigned (ResponseField name) value x = with_fields value (set_to name value x.fields) x
assigned (Context name) value x = Some (record x { context = bind (field name value) x.context })

-- a value that breaks a rule changes nothing
abbrev pub or_unchanged : Option Record → Record → Record
or_unchanged changed x = unwrap_or changed x

abbrev pub cleared : Target → Record → Record
cleared RelativePath x = record x { path = codes "/" }
cleared Query x = record x { query = None }
cleared Status x = record x { status = 200 }
cleared (ResponseField name) x = record x { fields = without name x.fields }
cleared (Context name) x = record x { context = unbound name x.context }
