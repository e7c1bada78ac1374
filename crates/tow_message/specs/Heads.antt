-- Which bytes are the head of a request, which heads are refused, and which request a head is.
use Rattle.std.specs.Prelude.{◌≡◌, ℕ, ◌+◌, ◌≤◌, ◌^◌, min, Bool, true, false, not, ◌&&◌, ◌||◌, ◌==◌, nat_lt, List, [], ◌∷◌, length, map, codes, Option, Some, None, is_none, unwrap_or, bytes_eq, if◌then◌else◌}
use Rattle.std.specs.List.{list_any, list_all, last_or}
use Rattle.std.specs.Option.{option_map_or}
use Rattle.std.specs.Char.{is_ascii_digit}
use Rattle.std.specs.Str.{byte}
use Rattle.std.specs.Str.Parse.{digits_value}
use Rattle.httparse.specs.Grammar.{RequestHead, ReadsRequest, field_value}
use Rattle.http_header.specs.Token.{lowercase}
use Rattle.tow_model.specs.declared.request.Field.{Field}
use Rattle.tow_model.specs.declared.request.Version.{Version}
use Rattle.tow_model.specs.declared.request.Version.TheVariants.{V10, V11}
use Rattle.tow_model.specs.declared.request.Framing.{Framing}
use Rattle.tow_model.specs.declared.request.Framing.TheVariants.{Empty, Fixed, Chunked}
use Rattle.tow_model.specs.declared.request.Request.{Request}
use Rattle.tow_model.specs.declared.limits.TheConstants.{MAX_HEAD_FIELDS, MAX_HEAD_LEN}
use Rattle.tow_model.specs.Texts.{Text, is_empty}
use Rattle.tow_model.specs.Fields.{field, values_of, has, elements}
use Rattle.tow_model.specs.Paths.{Place, place_of}

-- the bytes CR and LF, of which line ends are made (RFC 9112, section 2.2)
abbrev pub carriage_return : ℕ
carriage_return = byte "\r"

abbrev pub line_feed : ℕ
line_feed = byte "\n"

-- The input begins with the head h of httparse's grammar (RFC 9112, section 2.1), within the server's bounds, and rest follows.
pub record HasHead (input : List ℕ) (h : RequestHead) (rest : List ℕ) : Type 0 where
  pub reads : ReadsRequest input h rest
  pub bytes_fit : length input ≤ length rest + MAX_HEAD_LEN
  pub fields_fit : length h.fields ≤ MAX_HEAD_FIELDS

-- no front of the input is a head
abbrev pub HasNoHead : List ℕ → Type 0
HasNoHead input = (h : RequestHead) (rest : List ℕ) → ¬ (HasHead input h rest)

-- ---- its fields

abbrev pub fields_of : RequestHead → List Field
fields_of h = map (λ f. field f.name (field_value f)) h.fields

-- ---- refusals

-- HTTP/1.1 without a Host line, or more than one in either version (RFC 9112, section 3.2)
abbrev pub has_wrong_host : ℕ → List Field → Bool
has_wrong_host minor fields =
    let count = length (values_of (codes "host") fields) in nat_lt 1 count || (minor == 1 && count == 0)

-- the target is of no form that is served (RFC 9112, section 3.2)
abbrev pub has_wrong_target : RequestHead → Bool
has_wrong_target h = is_none (place_of h.method h.target)

-- one or more digits
abbrev pub is_number : Text → Bool
is_number value = not (is_empty value) && list_all is_ascii_digit value

abbrev pub is_no_length : List Text → Bool
is_no_length [] = false
is_no_length (value ∷ []) = not (is_number value)
is_no_length (value ∷ other ∷ values) = true

-- Content-Length stands twice, is no number, or stands with Transfer-Encoding (RFC 9112, section 6.3)
abbrev pub has_wrong_length : List Field → Bool
has_wrong_length fields =
    is_no_length (values_of (codes "content-length") fields)
    || (has (codes "content-length") fields && has (codes "transfer-encoding") fields)

-- the codings of all lines (RFC 9112, section 6.1)
abbrev pub codings_of : List Field → List Text
codings_of fields = elements (values_of (codes "transfer-encoding") fields)

abbrev pub ends_in_chunked : List Text → Bool
ends_in_chunked codings = option_map_or (bytes_eq (codes "chunked")) (last_or None codings) false

-- Transfer-Encoding stands in HTTP/1.0, or its last coding is not `chunked` (RFC 9112, sections 6.1 and 6.3)
abbrev pub has_wrong_coding : ℕ → List Field → Bool
has_wrong_coding minor fields =
    has (codes "transfer-encoding") fields && (minor == 0 || not (ends_in_chunked (codings_of fields)))

-- the version and the fields are wrong, whatever the target is
abbrev pub has_wrong_fields : ℕ → List Field → Bool
has_wrong_fields minor fields =
    has_wrong_host minor fields || has_wrong_length fields || has_wrong_coding minor fields

-- the head is no request that HTTP allows here
abbrev pub is_wrong : RequestHead → Bool
is_wrong h = has_wrong_fields h.minor (fields_of h) || has_wrong_target h

-- there is more than one coding
abbrev pub is_coded : List Field → Bool
is_coded fields = nat_lt 1 (length (codings_of fields))

-- The status with which a head is refused: 400 where it is wrong, 501 where its content is coded.
abbrev pub refusal : RequestHead → Option ℕ
refusal h = if is_wrong h then Some 400 else (if is_coded (fields_of h) then Some 501 else None)

-- ---- requests

abbrev pub version_by : ℕ → Version
version_by minor = if minor == 1 then V11 else V10

abbrev pub version_of : RequestHead → Version
version_of h = version_by h.minor

-- a length above 2^63 counts as 2^63
abbrev pub framing_by : List Text → Framing
framing_by [] = Empty
framing_by (value ∷ values) = Fixed (min (digits_value 10 value) (2 ^ 63))

-- RFC 9112, section 6.3
abbrev pub framing_of : List Field → Framing
framing_of fields =
    if has (codes "transfer-encoding") fields then Chunked else framing_by (values_of (codes "content-length") fields)

-- RFC 9112, section 9.3
abbrev pub keeps : Version → List Text → Bool
keeps V11 connection = not (list_any (bytes_eq (codes "close")) connection)
keeps V10 connection =
    list_any (bytes_eq (codes "keep-alive")) connection && not (list_any (bytes_eq (codes "close")) connection)

abbrev pub is_continue : List Text → Bool
is_continue (value ∷ []) = bytes_eq (lowercase value) (codes "100-continue")
is_continue _ = false

abbrev pub has_content : Framing → Bool
has_content Empty = false
has_content (Fixed n) = nat_lt 0 n
has_content Chunked = true

-- HTTP/1.1, the one Expect value is `100-continue`, and there is content (RFC 9110, section 10.1.1)
abbrev pub expects_by : Version → List Field → Bool
expects_by V10 fields = false
expects_by V11 fields = is_continue (values_of (codes "expect") fields) && has_content (framing_of fields)

-- what a target of no form would name
abbrev pub no_place : Place
no_place = record { url = []; path = []; query = None }

-- the request that a head is
abbrev pub request_of : ℕ → RequestHead → Request
request_of peer h =
    let place = unwrap_or (place_of h.method h.target) no_place in
    record {
      method = h.method;
      target = h.target;
      version = version_of h;
      fields = fields_of h;
      url = place.url;
      path = place.path;
      query = place.query;
      framing = framing_of (fields_of h);
      expects = expects_by (version_of h) (fields_of h);
      keep = keeps (version_of h) (elements (values_of (codes "connection") (fields_of h)));
      peer = peer;
    }

-- ---- for now: what a connection does not serve yet

abbrev pub is_framed : Framing → Bool
is_framed Empty = false
is_framed (Fixed n) = true
is_framed Chunked = true

abbrev pub is_old : Version → Bool
is_old V10 = true
is_old V11 = false

-- content, HTTP/1.0, and fields that decide on persistence or wait for leave to send content
abbrev pub is_unserved : Version → Framing → List Field → Bool
is_unserved version framing fields =
    is_framed framing || is_old version || has (codes "connection") fields || has (codes "expect") fields

-- The status with which a connection refuses a head: that of the head, or 501 for what it does not serve yet.
abbrev pub connection_refusal : RequestHead → Option ℕ
connection_refusal h =
    elim (refusal h) [
      | Some status ↦ Some status
      | None ↦ if is_unserved (version_of h) (framing_of (fields_of h)) (fields_of h) then Some 501 else None
    ]

-- ---- heads at the front of an input

-- The bytes are one whole head that is not refused, and q is its request.
pub record Head (bytes : List ℕ) (peer : ℕ) (q : Request) : Type 0 where
  pub head : RequestHead
  pub whole : HasHead bytes head []
  pub served : refusal head ≡ None
  pub request : request_of peer head ≡ q

-- the input begins with a head that is refused with this status, by a rule on heads
pub record IsRefusedBy (rule : RequestHead → Option ℕ) (input : List ℕ) (status : ℕ) : Type 0 where
  pub head : RequestHead
  pub rest : List ℕ
  pub reads : HasHead input head rest
  pub refused : rule head ≡ Some status

-- of one input at most one front is a head
abbrev pub HeadIsOne : List ℕ → Type 0
HeadIsOne input =
    (h k : RequestHead) (rest other : List ℕ) → HasHead input h rest → HasHead input k other → (h ≡ k) × (rest ≡ other)
