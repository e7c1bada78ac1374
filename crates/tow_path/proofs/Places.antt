-- The path that a target names has no dot segments.
use Rattle.std.proofs.Common.{◌≡◌, Bool, true, false, ◌&&◌, Option, Some, None, if◌then◌else◌, codes, drop, refl, subst}
use Rattle.std.specs.Str.{byte, bytes_eq, str_to_ascii_lowercase}
use Rattle.percent_encoding.specs.Percent.{percent_decode}
use Rattle.tow_model.specs.Texts.{Text, is_empty, begins_with, before}
use Rattle.tow_model.specs.Paths.{Place, place_at, place_of, absolute_place, begins_authority, behind_authority}
use Rattle.tow_path.specs.declared.target.Target3986.{Target3986}
use Rattle.tow_path.specs.declared.target.Target3986.TheVariants.{Parts, Bad, NoMemory}
use Rattle.tow_path.specs.Output.{has_dot_segment}
use Rattle.tow_path.specs.Told.{Reads, IsResolved}
use Rattle.tow_path.proofs.Outputs.{no_dots_left}

abbrev IsPlain : Place → Type 0
IsPlain place = has_dot_segment place.path ≡ false

same_place : (p q : Place) → Some p ≡ Some q → p ≡ q
same_place p q e = cc

either : (a b : Bool) (p q : Place) (r : Option Place) (place : Place) → IsPlain p → IsPlain q → (r ≡ Some place → IsPlain place)
    → (if a then Some p else (if b then Some q else r)) ≡ Some place → IsPlain place
either true b p q r place x y z is = subst IsPlain (same_place p place is) x
either false true p q r place x y z is = subst IsPlain (same_place q place is) y
either false false p q r place x y z is = z is

place_plain : (text : Text) → IsPlain (place_at text)
place_plain text = no_dots_left (percent_decode (if is_empty (before (byte "?") text) then codes "/" else before (byte "?") text))

none_is : (place : Place) → None ≡ Some place → IsPlain place
none_is place is = absurd (cc)

absolute_is : (target : Text) (place : Place) → absolute_place target ≡ Some place → IsPlain place
absolute_is target place is =
    let lower = str_to_ascii_lowercase target in
    either (begins_with (codes "http://") lower && begins_authority (drop 7 target)) (begins_with (codes "https://") lower && begins_authority (drop 8 target))
    (place_at (behind_authority (drop 7 target))) (place_at (behind_authority (drop 8 target))) None place
    (place_plain (behind_authority (drop 7 target))) (place_plain (behind_authority (drop 8 target))) (none_is place) is

place_is : (method target : Text) (place : Place) → place_of method target ≡ Some place → IsPlain place
place_is method target place is =
    either (begins_with (codes "/") target) (bytes_eq target (codes "*") && bytes_eq method (codes "OPTIONS")) (place_at target)
    (record { url = codes "*"; path = codes "*"; query = None }) (absolute_place target) place (place_plain target) refl (absolute_is target place) is

pub parts_are : (method target : Text) (parts : Target3986) → Reads method target parts → IsResolved parts
parts_are method target (Parts url path query) reads = place_is method target (record { url = url; path = path; query = query }) reads
parts_are method target Bad reads = tt
parts_are method target NoMemory reads = tt
