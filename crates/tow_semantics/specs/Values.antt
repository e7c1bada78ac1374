-- Values of attributes and templates, as an answer has them and as a line of a log shows them.
use Rattle.std.specs.Prelude.{ℕ, ◌/◌, ◌%◌, ◌^◌, Bool, true, false, not, ◌&&◌, ◌||◌, ◌==◌, nat_lt, List, [], ◌∷◌, ◌++◌, map, length, take, if◌then◌else◌, Option, Some, None, option_map, codes, decimal, flat_map}
use Rattle.std.specs.List.{join_by}
use Rattle.std.specs.Option.{unwrap_or}
use Rattle.std.specs.Fmt.{digit_glyph}
use Rattle.std.specs.Str.{bytes_eq, byte}
use Rattle.percent_encoding.specs.Percent.{percent_decode}
use Rattle.tow_model.specs.declared.request.Field.{Field}
use Rattle.tow_model.specs.declared.request.Request.{Request}
use Rattle.tow_model.specs.declared.request.Version.{Version}
use Rattle.tow_model.specs.declared.request.Version.TheVariants.{V10, V11}
use Rattle.tow_model.specs.declared.record.Record.{Record}
use Rattle.tow_model.specs.declared.record.Choice.{Choice}
use Rattle.tow_model.specs.declared.record.Choice.TheVariants.{Undecided, Empty, Whole, File, Listing}
use Rattle.tow_model.specs.declared.attribute.Attribute.{Attribute}
use Rattle.tow_model.specs.declared.attribute.Attribute.TheVariants.{Method, RequestUrl, RelativePath, Query, Status, RequestLine, Protocol, RemoteIp, RemoteHost, Ident, User, Moment, Sent, SentOrDash, RequestField, ResponseField, Param, Cookie, Context}
use Rattle.tow_model.specs.declared.attribute.Piece.{Piece}
use Rattle.tow_model.specs.declared.attribute.Piece.TheVariants.{Literal, Value}
use Rattle.tow_model.specs.declared.limits.TheConstants.{MAX_VALUE_LEN}
use Rattle.tow_model.specs.Texts.{Text, before, after, cut_at, trimmed}
use Rattle.tow_model.specs.Fields.{field, values_of, bound_to}
use Rattle.tow_model.specs.Dates.{log_date_of}

-- PARTS OF A REQUEST

abbrev pub protocol : Version → Text
protocol V10 = codes "HTTP/1.0"
protocol V11 = codes "HTTP/1.1"

-- an IPv4 address, its four bytes in decimal
abbrev pub dotted : ℕ → Text
dotted ip = join_by decimal (codes ".") (ip / 2 ^ 24 ∷ ip / 2 ^ 16 % 256 ∷ ip / 2 ^ 8 % 256 ∷ ip % 256 ∷ [])

-- a piece at its first `=`; without one its value is empty
abbrev pub name_and_value : Text → Field
name_and_value piece = field (before (byte "=") piece) (unwrap_or (after (byte "=") piece) [])

abbrev pub decoded : Field → Field
decoded f = field (percent_decode f.name) (percent_decode f.value)

abbrev pub query_parameters : Option Text → List Field
query_parameters None = []
query_parameters (Some query) = map (λ piece. decoded (name_and_value piece)) (cut_at (byte "&") query)

-- the cookies of all Cookie lines
abbrev pub cookies : Request → List Field
cookies q = map (λ piece. name_and_value (trimmed piece)) (flat_map (cut_at (byte ";")) (values_of (codes "cookie") q.fields))

abbrev pub joined : List Text → Text
joined values = join_by (λ v. v) (codes ", ") values

abbrev pub or_empty : Option Text → Text
or_empty value = unwrap_or value []

-- THE ANSWER'S CONTENT

abbrev pub choice_length : Choice → ℕ
choice_length Undecided = 0
choice_length Empty = 0
choice_length (Whole bytes) = length bytes
choice_length (File path len) = len
choice_length (Listing bytes) = length bytes

abbrev pub is_decided : Choice → Bool
is_decided Undecided = false
is_decided Empty = true
is_decided (Whole bytes) = true
is_decided (File path len) = true
is_decided (Listing bytes) = true

-- 204 and 304 tell nothing of their content and have none (RFC 9110, sections 15.3.5 and 15.4.5)
abbrev pub is_bare : ℕ → Bool
is_bare status = status == 204 || status == 304

-- nor is there content in an answer to HEAD (RFC 9110, section 9.3.2)
abbrev pub has_no_content : Request → ℕ → Bool
has_no_content q status = bytes_eq q.method (codes "HEAD") || is_bare status

abbrev pub has_content : Request → Record → Bool
has_content q x = not (has_no_content q x.status)

-- how many bytes of content the answer has, without its framing
abbrev pub sent : Request → Record → ℕ
sent q x = if has_content q x then choice_length x.choice else 0

-- ATTRIBUTES

abbrev pub attribute_of : Attribute → Request → Record → ℕ → Text
attribute_of Method q x m = q.method
attribute_of RequestUrl q x m = q.url
attribute_of RelativePath q x m = x.path
attribute_of Query q x m = or_empty (option_map (λ query. codes "?" ++ query) x.query)
attribute_of Status q x m = decimal x.status
attribute_of RequestLine q x m = q.method ++ codes " " ++ q.target ++ codes " " ++ protocol q.version
attribute_of Protocol q x m = protocol q.version
attribute_of RemoteIp q x m = dotted q.peer
attribute_of RemoteHost q x m = dotted q.peer
attribute_of Ident q x m = codes "-"
attribute_of User q x m = codes "-"
attribute_of Moment q x m = log_date_of m
attribute_of Sent q x m = decimal (sent q x)
attribute_of SentOrDash q x m = if sent q x == 0 then codes "-" else decimal (sent q x)
attribute_of (RequestField name) q x m = joined (values_of name q.fields)
attribute_of (ResponseField name) q x m = joined (values_of name x.fields)
attribute_of (Param name) q x m = or_empty (bound_to name (query_parameters x.query))
attribute_of (Cookie name) q x m = or_empty (bound_to name (cookies q))
attribute_of (Context name) q x m = or_empty (bound_to name x.context)

-- TEMPLATES

abbrev pub piece_of : Piece → Request → Record → ℕ → Text
piece_of (Literal bytes) q x m = bytes
piece_of (Value attribute) q x m = attribute_of attribute q x m

-- the values of the pieces, one after the other, up to the longest value
abbrev pub value_of : List Piece → Request → Record → ℕ → Text
value_of template q x m = take MAX_VALUE_LEN (flat_map (λ piece. piece_of piece q x m) template)

-- LINES OF A LOG

-- a byte of an attribute as a line shows it: no line breaks and no other control bytes
abbrev pub shown_byte : ℕ → Text
shown_byte b = if nat_lt b 0x20 || b == 0x7F then codes "\\x" ++ digit_glyph false (b / 16) ∷ digit_glyph false (b % 16) ∷ [] else b ∷ []

abbrev pub shown : Text → Text
shown [] = codes "-"
shown (b ∷ bs) = flat_map shown_byte (b ∷ bs)

-- the attribute is one of the answer, or of the record on the way to it
abbrev pub is_of_answer : Attribute → Bool
is_of_answer RelativePath = true
is_of_answer Query = true
is_of_answer Status = true
is_of_answer Sent = true
is_of_answer SentOrDash = true
is_of_answer (ResponseField name) = true
is_of_answer (Param name) = true
is_of_answer (Context name) = true
is_of_answer other = false

-- an attribute as a line shows it: `-` if it is empty, or one of an answer that was not decided
abbrev pub logged : Attribute → Request → Record → ℕ → Text
logged attribute q x m =
    if is_of_answer attribute && not (is_decided x.choice) then codes "-" else shown (attribute_of attribute q x m)

abbrev pub logged_piece : Piece → Request → Record → ℕ → Text
logged_piece (Literal bytes) q x m = bytes
logged_piece (Value attribute) q x m = logged attribute q x m

-- the line of a format, up to the longest value
abbrev pub line_of : List Piece → Request → Record → ℕ → Text
line_of format q x m = take MAX_VALUE_LEN (flat_map (λ piece. logged_piece piece q x m) format)
