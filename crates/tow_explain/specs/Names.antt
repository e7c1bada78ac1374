-- What is wrong with the name of a call, and with a parameter.
use Rattle.std.specs.Prelude.{ℕ, Bool, ◌==◌, List, length, is_some, bytes_eq, Option, None, Some, if◌then◌else◌}
use Rattle.std.specs.List.{list_any}
use Rattle.tow_language.specs.Table.{handler_named, takes_array, test_named}
use Rattle.tow_language.specs.declared.table.Shape.{Shape}
use Rattle.tow_language.specs.declared.table.Shape.TheVariants as shapes
use Rattle.tow_language.specs.declared.signatures.Parameter.{Parameter}
use Rattle.tow_explain.specs.Comments.{begins_comment}
use Rattle.tow_explain.specs.declared.cause.Cause.{Cause}
use Rattle.tow_explain.specs.declared.cause.Cause.TheVariants as causes
use Rattle.tow_explain.specs.declared.spot.Form.{Form}
use Rattle.tow_explain.specs.declared.spot.Form.TheVariants as forms
use Rattle.tow_explain.specs.declared.spot.Spot.{Spot}
use Rattle.tow_explain.specs.declared.spot.Spot.TheVariants as spots

-- a name of the other table, or of none
abbrev pub unknown_name : Bool → List ℕ → Cause
unknown_name predicate name =
    if begins_comment name then causes.CommentName else
    (if predicate then (if is_some (handler_named name) then causes.HandlerForPredicate else causes.UnknownPredicate) else
    (if is_some (test_named name) then causes.PredicateForHandler else causes.UnknownHandler))

-- the call has a parameter of this name
abbrev pub is_parameter : List ℕ → List Parameter → Bool
is_parameter name ps = list_any (λ (p : Parameter). bytes_eq p.name.now name) ps

-- what is wrong with a text of this shape
abbrev pub text_cause : Shape → Cause
text_cause shapes.Status = causes.BadStatus
text_cause (shapes.Number low high) = causes.BadNumber
text_cause shapes.Truth = causes.BadTruth
text_cause shapes.Match = causes.BadMatch
text_cause shapes.Tokens = causes.BadMethod
text_cause shapes.Writable = causes.NotOneAttribute
text_cause _ = causes.BadValue

-- a value too many: for the call, or for its first parameter
abbrev pub further_cause : List Parameter → Cause
further_cause ps = if length ps == 1 then causes.OneTooMany else causes.TakesOne

abbrev pub form_cause : Form → Shape → List Parameter → Cause
form_cause forms.Further shape ps = further_cause ps
form_cause forms.Among shape ps = causes.ArrayAmong
form_cause forms.Empty shape ps = if takes_array shape then causes.EmptyArray else causes.ArrayForText
form_cause forms.Array shape ps = if takes_array shape then text_cause shape else causes.ArrayForText
form_cause forms.Text shape ps = text_cause shape

abbrev pub value_cause : Form → Option Shape → List Parameter → Cause
value_cause form None ps = causes.TakesNone
value_cause form (Some shape) ps = form_cause form shape ps

-- what is wrong at a spot of a call with these parameters: a parameter is missing, or is unknown or given twice, or has a wrong value
abbrev pub spot_cause : Spot → List Parameter → Cause
spot_cause spots.Call ps = causes.Missing
spot_cause (spots.Name name) ps = if is_parameter name.now ps then causes.GivenTwice else causes.UnknownParameter
spot_cause (spots.Value form shape) ps = value_cause form shape ps
