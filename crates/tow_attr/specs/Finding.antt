-- Where the values of a request are found.
use Rattle.std.specs.Prelude.{Bool, List, [], map, codes, flat_map, if◌then◌else◌}
use Rattle.std.specs.Str.{byte, bytes_eq}
use Rattle.percent_encoding.specs.Percent.{percent_decode}
use Rattle.tow_model.specs.declared.request.Field.{Field}
use Rattle.tow_model.specs.Texts.{Text, before, cut_at, trimmed}
use Rattle.tow_model.specs.Fields.{is_named, values_of}
use Rattle.tow_semantics.specs.Values.{name_and_value}

-- the parameter has the name, when that is decoded
abbrev pub is_parameter : Text → Text → Bool
is_parameter name parameter = bytes_eq (percent_decode (before (byte "=") parameter)) name

-- the cookies of all Cookie lines among the fields
abbrev pub cookies_of : List Field → List Field
cookies_of fields = map (λ piece. name_and_value (trimmed piece)) (flat_map (cut_at (byte ";")) (values_of (codes "cookie") fields))

-- the cookie has the name
abbrev pub is_cookie : Text → Text → Bool
is_cookie name cookie = bytes_eq (before (byte "=") (trimmed cookie)) name

-- the cookies of a line, with the blanks around them, where it is a Cookie line
abbrev pub cookie_pieces : Field → List Text
cookie_pieces f = if is_named (codes "cookie") f then cut_at (byte ";") f.value else []
