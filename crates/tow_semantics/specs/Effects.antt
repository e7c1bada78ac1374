-- What an action does to the record, or what it waits for.
use Rattle.std.specs.Prelude.{ℕ, Bool, true, false, List, [], ◌∷◌, ◌++◌, if◌then◌else◌, codes}
use Rattle.tow_model.specs.declared.request.Field.{Field}
use Rattle.tow_model.specs.declared.request.Request.{Request}
use Rattle.tow_model.specs.declared.record.Record.{Record}
use Rattle.tow_model.specs.declared.record.Listener.TheVariants.{Log}
use Rattle.tow_model.specs.declared.action.Action.{Action}
use Rattle.tow_model.specs.declared.action.Action.TheVariants.{Set, Clear, Rewrite, Redirect, ResponseCode, Header, AllowedMethods, RequestLimit, Resource, Blocking, AccessLog, Echo, Restart, Done}
use Rattle.tow_model.specs.declared.attribute.Piece.{Piece}
use Rattle.tow_model.specs.declared.action.Target.{Target}
use Rattle.tow_model.specs.declared.action.Target.TheVariants.{RelativePath}
use Rattle.tow_model.specs.Texts.{Text, is_among, is_visible, escaped}
use Rattle.tow_model.specs.Fields.{field, set_to}
use Rattle.tow_semantics.specs.Values.{value_of, joined}
use Rattle.tow_semantics.specs.Writing.{assigned, with_fields, or_unchanged, cleared}
use Rattle.tow_semantics.specs.Steps.{Step, Go, Stop, answered, listening}

pub data Effect : Type 0 where
  Takes : Step → Effect
  -- enters a limit
  Asks : ℕ → Effect
  ReadsContent : Effect
  -- looks for a page after a location, listing or not
  LooksUp : Text → Bool → Effect
  BeginsAgain : Effect
  GoesToDefault : Effect

abbrev pub write : Target → List Piece → Request → Record → ℕ → Record
write target value q x m = or_unchanged (assigned target (value_of value q x m) x) x

-- the fields with the value in place of the name's values, or after all of them
abbrev pub with_header : Bool → Text → Text → List Field → List Field
with_header true name value fields = set_to name value fields
with_header false name value fields = fields ++ field name value ∷ []

abbrev pub with_field : Text → Text → Record → Record
with_field name value x = record x { fields = set_to name value x.fields }

-- a 302 to that location (RFC 9110, section 15.4.3)
abbrev pub redirected : Text → Record → Record
redirected location x = answered 302 (with_field (codes "location") location x)

-- a 405 that names the methods (RFC 9110, section 15.5.6)
abbrev pub not_allowed : List Text → Record → Record
not_allowed methods x = answered 405 (with_field (codes "allow") (joined methods) x)

abbrev pub effect_of : Action → Request → Record → ℕ → Effect
effect_of (Set target value) q x m = Takes (Go (write target value q x m))
effect_of (Clear target) q x m = Takes (Go (cleared target x))
effect_of (Rewrite value) q x m = Takes (Go (write RelativePath value q x m))
effect_of (Redirect value) q x m = Takes (Stop (redirected (escaped is_visible (value_of value q x m)) x))
effect_of (ResponseCode status) q x m = Takes (Stop (answered status x))
effect_of (Header name value replace) q x m =
    let text = value_of value q x m in
    Takes (Go (or_unchanged (with_fields text (with_header replace name text x.fields) x) x))
effect_of (AllowedMethods methods) q x m = Takes (if is_among q.method methods then Go x else Stop (not_allowed methods x))
effect_of (RequestLimit number most) q x m = Asks number
effect_of (Resource location listing) q x m = LooksUp location listing
effect_of Blocking q x m = Takes (Go x)
effect_of (AccessLog number format) q x m = Takes (Go (listening (Log number) x))
effect_of Echo q x m = ReadsContent
effect_of Restart q x m = BeginsAgain
effect_of Done q x m = GoesToDefault
