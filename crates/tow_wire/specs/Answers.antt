-- The bytes of an answer: its fields, its head, its content and how that is framed.
use Rattle.std.specs.Prelude.{◌≡◌, ◌<◌, ◌≤◌, ℕ, zero, suc, Bool, true, false, not, ◌&&◌, ◌||◌, ◌==◌, nat_lt, List, [], ◌∷◌, ◌++◌, length, filter, IsTrue, take, drop, codes, decimal, Option, Some, None, is_none, bytes_eq, if◌then◌else◌}
use Rattle.std.specs.List.{flat_map}
use Rattle.std.specs.Fmt.{digits}
use Rattle.httparse.specs.Ascii.{crlf_bytes}
use Rattle.tow_model.specs.declared.request.Field.{Field}
use Rattle.tow_model.specs.declared.request.Version.{Version}
use Rattle.tow_model.specs.declared.request.Version.TheVariants.{V10, V11}
use Rattle.tow_model.specs.declared.request.Framing.{Framing}
use Rattle.tow_model.specs.declared.request.Framing.TheVariants as Frames
use Rattle.tow_model.specs.declared.request.Request.{Request}
use Rattle.tow_model.specs.declared.record.Choice.{Choice}
use Rattle.tow_model.specs.declared.record.Choice.TheVariants.{Undecided, Empty, Whole, File, Listing}
use Rattle.tow_model.specs.declared.content.Content.{Content}
use Rattle.tow_model.specs.declared.content.Content.TheVariants as Contents
use Rattle.tow_model.specs.declared.answer.Answer.{Answer}
use Rattle.tow_model.specs.declared.limits.TheConstants.{BLOCK_LEN, MAX_CONTENT_LEN, MAX_REQUESTS}
use Rattle.tow_model.specs.Lists.{bytes_le}
use Rattle.tow_model.specs.Fields.{field}
use Rattle.tow_model.specs.Dates.{date_of}
use Rattle.tow_message.specs.Heads.{is_old}
use Rattle.tow_wire.specs.Reasons.{reason_of}
use Rattle.tow_semantics.specs.Runs.{Ending}
use Rattle.tow_semantics.specs.Values.{has_no_content, is_bare}

-- ---- which answers close

-- a fixed length above the limit
abbrev pub is_too_long : Framing → Bool
is_too_long Frames.Empty = false
is_too_long (Frames.Fixed n) = nat_lt MAX_CONTENT_LEN n
is_too_long Frames.Chunked = false

-- the length of the content, where the head can tell it
abbrev pub known_length : Choice → Option ℕ
known_length Undecided = Some 0
known_length Empty = Some 0
known_length (Whole bytes) = Some (length bytes)
known_length (File path len) = Some len
known_length (Listing bytes) = None

-- content that is refused where it is asked for
abbrev pub is_refused : Option Content → Bool
is_refused (Some Contents.Bad) = true
is_refused (Some Contents.TooLong) = true
is_refused (Some (Contents.Whole bytes)) = false
is_refused None = false

-- the answer to request j ends the connection
abbrev pub closes : Request → ℕ → Option Content → Ending → Bool
closes q j content o =
    not q.keep
    || j == MAX_REQUESTS
    || is_too_long q.framing
    || (q.expects && not o.asked)
    || (is_old q.version && is_none (known_length o.state.choice))
    || (o.asked && is_refused content)

-- ---- fields

abbrev pub length_fields : ℕ → Version → Option ℕ → List Field
length_fields status version (Some n) =
    if is_bare status then [] else field (codes "content-length") (decimal n) ∷ []
length_fields status V11 None =
    if is_bare status then [] else field (codes "transfer-encoding") (codes "chunked") ∷ []
length_fields status V10 None = []

abbrev pub connection_fields : Version → Bool → List Field
connection_fields version true = field (codes "connection") (codes "close") ∷ []
connection_fields V10 false = field (codes "connection") (codes "keep-alive") ∷ []
connection_fields V11 false = []

-- a field in its place among those that are sorted by name, before those of its own name
abbrev pub placed : Field → List Field → List Field
placed f [] = f ∷ []
placed f (g ∷ rest) = if bytes_le f.name g.name then f ∷ g ∷ rest else g ∷ placed f rest

-- sorted by name; those of one name keep their order
abbrev pub sorted : List Field → List Field
sorted [] = []
sorted (f ∷ rest) = placed f (sorted rest)

-- the record's answer to request j at this moment
abbrev pub answer_of : Request → ℕ → ℕ → Option Content → Ending → Answer
answer_of q j moment content o =
    let x = o.state in
    let close = closes q j content o in
    record {
      status = x.status;
      fields = sorted (x.fields ++ field (codes "date") (date_of moment) ∷ connection_fields q.version close
          ++ length_fields x.status q.version (known_length x.choice));
      choice = x.choice;
      close = close;
    }

-- ---- bytes

abbrev pub field_line : Field → List ℕ
field_line f = f.name ++ codes ": " ++ f.value ++ crlf_bytes

-- the head of an answer
abbrev pub head_text : ℕ → List Field → List ℕ
head_text status fields =
    codes "HTTP/1.1 " ++ decimal status ++ codes " " ++ reason_of status ++ crlf_bytes
    ++ flat_map field_line fields ++ crlf_bytes

-- so many bytes of a file from this place on
abbrev pub part_of : ℕ → ℕ → List ℕ → List ℕ
part_of at len bytes = take len (drop at bytes)

-- the content bytes of a choice
abbrev pub content_of : (List ℕ → List ℕ) → Choice → List ℕ
content_of file Undecided = []
content_of file Empty = []
content_of file (Whole bytes) = bytes
content_of file (File path len) = part_of 0 len (file path)
content_of file (Listing bytes) = bytes

-- the content that an answer sends
abbrev pub body : (List ℕ → List ℕ) → Request → Answer → List ℕ
body file q a = if has_no_content q a.status then [] else content_of file a.choice

-- the bytes cut into pieces of this size, the last one shorter; at most n of them
abbrev pub cut : ℕ → ℕ → List ℕ → List (List ℕ)
cut size zero bytes = []
cut size (suc n) [] = []
cut size (suc n) (b ∷ bytes) = take size (b ∷ bytes) ∷ cut size n (drop size (b ∷ bytes))

-- blocks of this many bytes, the last one shorter
abbrev pub blocks : List ℕ → List (List ℕ)
blocks bytes = cut BLOCK_LEN (length bytes) bytes

-- a chunk: its size in hexadecimal, and its bytes
abbrev pub chunk_text : List ℕ → List ℕ
chunk_text block = digits 16 false (length block) ++ crlf_bytes ++ block ++ crlf_bytes

abbrev pub last_chunk : List ℕ
last_chunk = codes "0" ++ crlf_bytes ++ crlf_bytes

-- the whole content as chunks
abbrev pub chunked : List ℕ → List ℕ
chunked bytes = flat_map chunk_text (blocks bytes) ++ last_chunk

-- how the content is framed: plain where its length is known or the request is of HTTP/1.0, else in chunks
abbrev pub framed_by : Version → Option ℕ → List ℕ → List ℕ
framed_by version (Some n) bytes = bytes
framed_by V10 None bytes = bytes
framed_by V11 None bytes = chunked bytes

abbrev pub framed : (List ℕ → List ℕ) → Request → Answer → List ℕ
framed file q a =
    if has_no_content q a.status then [] else framed_by q.version (known_length a.choice) (body file q a)

-- all the bytes of an answer
abbrev pub answer : (List ℕ → List ℕ) → Request → Answer → List ℕ
answer file q a = head_text a.status a.fields ++ framed file q a

-- the answer to a head that is refused
abbrev pub refusal_text : ℕ → ℕ → List ℕ
refusal_text status moment =
    head_text status (field (codes "connection") (codes "close") ∷ field (codes "content-length") (codes "0")
    ∷ field (codes "date") (date_of moment) ∷ [])

-- `HTTP/1.1 100 Continue` and an empty line
abbrev pub continue_text : List ℕ
continue_text = codes "HTTP/1.1 100 Continue" ++ crlf_bytes ++ crlf_bytes

-- The text asked for the content of a request that expects, and its length is not above the limit.
abbrev pub is_invited : Request → Ending → Bool
is_invited q o = q.expects && o.asked && not (is_too_long q.framing)

-- ---- laws

-- the pieces are the bytes in order: each has this size, the last one this size at most and some byte
abbrev pub ArePieces : ℕ → List (List ℕ) → List ℕ → Type 0
ArePieces size [] bytes = bytes ≡ []
ArePieces size (p ∷ []) bytes = (bytes ≡ p) × (0 < length p) × (length p ≤ size)
ArePieces size (p ∷ q ∷ pieces) bytes =
    (rest : List ℕ) × (bytes ≡ p ++ rest) × (length p ≡ size) × ArePieces size (q ∷ pieces) rest

-- blocks are such pieces
abbrev pub BlocksAre : Type 0
BlocksAre = (bytes : List ℕ) → ArePieces BLOCK_LEN (blocks bytes) bytes

-- the names are in order
abbrev pub AreInOrder : List Field → Type 0
AreInOrder [] = Unit {0}
AreInOrder (f ∷ []) = Unit {0}
AreInOrder (f ∷ g ∷ rest) = IsTrue (bytes_le f.name g.name) × AreInOrder (g ∷ rest)

abbrev pub named : List ℕ → List Field → List Field
named name fields = filter (λ f. bytes_eq f.name name) fields

-- sorted fields are in the order of their names, and each name has its fields in the order that they had
pub record SortedIs (fields : List Field) : Type 0 where
  pub in_order : AreInOrder (sorted fields)
  pub same : (name : List ℕ) → named name (sorted fields) ≡ named name fields

abbrev pub SortedAre : Type 0
SortedAre = (fields : List Field) → SortedIs fields
