-- The scheme at the front of an absolute target (RFC 3986, section 3.1).
use Rattle.std.specs.Prelude.{◌&&◌, length, drop, if◌then◌else◌, Option, Some, None}
use Rattle.std.specs.Str.{str_to_ascii_lowercase}
use Rattle.tow_model.specs.Texts.{Text, begins_with}
use Rattle.tow_model.specs.Paths.{begins_authority, behind_authority}

-- what stands behind the scheme, in any case, and an authority
abbrev pub behind_scheme : Text → Text → Option Text
behind_scheme scheme target =
    if begins_with (str_to_ascii_lowercase scheme) (str_to_ascii_lowercase target) && begins_authority (drop (length scheme) target)
    then Some (behind_authority (drop (length scheme) target)) else None
