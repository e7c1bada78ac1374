-- Attributes and their spellings, and the templates that texts spell.
use Rattle.std.specs.Prelude.{ℕ, ◌+◌, Bool, false, not, ◌||◌, ◌==◌, List, [], ◌∷◌, ◌++◌, length, take, drop, flat_map, codes, bytes_eq, if◌then◌else◌, Option, None, Some, Result, Ok, Err, option_map, slice_index}
use Rattle.std.specs.Map.{lookup}
use Rattle.std.specs.Result.{result_map_both}
use Rattle.http_header.specs.FieldName.{is_field_name}
use Rattle.http_header.specs.Token.{lowercase}
use Rattle.tow_model.specs.declared.attribute.Attribute.{Attribute}
use Rattle.tow_model.specs.declared.attribute.Attribute.TheVariants.{Method, RequestUrl, RelativePath, Query, Status, RequestLine, Protocol, RemoteIp, RemoteHost, Ident, User, Moment, Sent, SentOrDash, RequestField, ResponseField, Param, Cookie, Context}
use Rattle.tow_model.specs.declared.attribute.Piece.{Piece}
use Rattle.tow_model.specs.declared.attribute.Piece.TheVariants.{Literal, Value}
use Rattle.tow_language.specs.Tokens.{opens_brace, last_byte}

-- the attributes without a name, by the letter behind `%`
abbrev pub by_letter : List (ℕ × Attribute)
by_letter =
    (109, Method) ∷ (85, RequestUrl) ∷ (82, RelativePath) ∷ (113, Query) ∷ (115, Status) ∷ (114, RequestLine) ∷ (72, Protocol) ∷ (97, RemoteIp)
    ∷ (104, RemoteHost) ∷ (108, Ident) ∷ (117, User) ∷ (116, Moment) ∷ (66, Sent) ∷ (98, SentOrDash) ∷ []

-- those that have a long form, by the word in `%{..}`
abbrev pub by_word : List (List ℕ × Attribute)
by_word =
    (codes "METHOD", Method) ∷ (codes "REQUEST_URL", RequestUrl) ∷ (codes "RELATIVE_PATH", RelativePath) ∷ (codes "QUERY_STRING", Query)
    ∷ (codes "RESPONSE_CODE", Status) ∷ (codes "REQUEST_LINE", RequestLine) ∷ (codes "PROTOCOL", Protocol) ∷ (codes "REMOTE_IP", RemoteIp)
    ∷ (codes "REMOTE_HOST", RemoteHost) ∷ (codes "REMOTE_USER", User) ∷ (codes "DATE_TIME", Moment) ∷ (codes "BYTES_SENT", Sent) ∷ []

-- a field's name is a token, and is kept in lower case
abbrev pub field_named : List ℕ → Option (List ℕ)
field_named name = if is_field_name name then Some (lowercase name) else None

-- any other name is not empty
abbrev pub any_named : List ℕ → Option (List ℕ)
any_named [] = None
any_named (b ∷ bs) = Some (b ∷ bs)

-- the attribute of `%{kind,name}`
abbrev pub by_kind : List ℕ → List ℕ → Option Attribute
by_kind kind name =
    if bytes_eq kind (codes "i") then option_map RequestField (field_named name) else
    (if bytes_eq kind (codes "o") then option_map ResponseField (field_named name) else
    (if bytes_eq kind (codes "q") then option_map Param (any_named name) else
    (if bytes_eq kind (codes "c") then option_map Cookie (any_named name) else None)))

-- the attribute of `%{..}` with these bytes inside
abbrev pub in_percent_brace : List ℕ → Option Attribute
in_percent_brace inside =
    if slice_index inside 1 == 44 then by_kind (take 1 inside) (drop 2 inside) else lookup (bytes_eq inside) by_word

-- the piece that is spelled so: `%%` stands for `%`
abbrev pub piece_of : List ℕ → Option Piece
piece_of [] = None
piece_of (s ∷ []) = None
piece_of (s ∷ c ∷ []) = if c == 37 then Some (Literal (37 ∷ [])) else option_map Value (lookup (λ k. k == c) by_letter)
piece_of (s ∷ c ∷ d ∷ more) = option_map Value (braced s (drop_last d more))
  where
    drop_last : ℕ → List ℕ → List ℕ
    drop_last b [] = []
    drop_last b (c ∷ cs) = b ∷ drop_last c cs

    braced : ℕ → List ℕ → Option Attribute
    braced s inside = if s == 36 then option_map Context (any_named inside) else in_percent_brace inside

-- a piece before others; bytes that stand for themselves are one piece with those behind them
abbrev pub with_piece : Piece → List Piece → List Piece
with_piece (Literal bytes) (Literal more ∷ ps) = Literal (bytes ++ more) ∷ ps
with_piece p ps = p ∷ ps

-- `%`, or `$` before `{`, begins a piece other than bytes that stand for themselves
abbrev pub begins_value : ℕ → List ℕ → Bool
begins_value b after = b == 37 || opens_brace b after

-- whether the bytes, which begin a piece, are the whole of it: two bytes, or all up to `}` behind `%{` or `${`
abbrev pub is_whole : List ℕ → Bool
is_whole [] = false
is_whole (s ∷ []) = false
is_whole (s ∷ c ∷ more) = not (c == 123) || last_byte c more == 125

abbrev pub with_first : Option Piece → Result (List Piece) ℕ → ℕ → Result (List Piece) ℕ
with_first None rest at = Err at
with_first (Some p) rest at = result_map_both (with_piece p) (λ place. place) rest

-- the template of the bytes, or the place of the first piece that is none. `begun` are the bytes of a piece that is not whole yet,
-- and `at` the place where it begins
abbrev pub template_from : List ℕ → ℕ → List ℕ → Result (List Piece) ℕ
template_from [] at [] = Ok []
template_from (s ∷ begun) at [] = Err at
template_from [] at (b ∷ bytes) =
    if begins_value b bytes then template_from (b ∷ []) at bytes
    else with_first (Some (Literal (b ∷ []))) (template_from [] (at + 1) bytes) at
template_from (s ∷ begun) at (b ∷ bytes) =
    let now = s ∷ (begun ++ b ∷ []) in
    if is_whole now then with_first (piece_of now) (template_from [] (at + length now) bytes) at
    else template_from now at bytes

abbrev pub template_of : List ℕ → Result (List Piece) ℕ
template_of text = template_from [] 0 text

-- the spelling of an attribute, by its own short form where it has one
abbrev pub spelled_attribute : Attribute → List ℕ
spelled_attribute Method = codes "%m"
spelled_attribute RequestUrl = codes "%U"
spelled_attribute RelativePath = codes "%R"
spelled_attribute Query = codes "%q"
spelled_attribute Status = codes "%s"
spelled_attribute RequestLine = codes "%r"
spelled_attribute Protocol = codes "%H"
spelled_attribute RemoteIp = codes "%a"
spelled_attribute RemoteHost = codes "%h"
spelled_attribute Ident = codes "%l"
spelled_attribute User = codes "%u"
spelled_attribute Moment = codes "%t"
spelled_attribute Sent = codes "%B"
spelled_attribute SentOrDash = codes "%b"
spelled_attribute (RequestField name) = codes "%{i," ++ name ++ codes "}"
spelled_attribute (ResponseField name) = codes "%{o," ++ name ++ codes "}"
spelled_attribute (Param name) = codes "%{q," ++ name ++ codes "}"
spelled_attribute (Cookie name) = codes "%{c," ++ name ++ codes "}"
spelled_attribute (Context name) = codes "${" ++ name ++ codes "}"

-- a literal `%` is spelled `%%`
abbrev pub spelled_piece : Piece → List ℕ
spelled_piece (Literal bytes) = flat_map (λ b. if b == 37 then 37 ∷ 37 ∷ [] else b ∷ []) bytes
spelled_piece (Value a) = spelled_attribute a

abbrev pub spelled_template : List Piece → List ℕ
spelled_template ps = flat_map spelled_piece ps

-- the word of the long form of an attribute that has one
abbrev pub long_word : Attribute → Option (List ℕ)
long_word Method = Some (codes "METHOD")
long_word RequestUrl = Some (codes "REQUEST_URL")
long_word RelativePath = Some (codes "RELATIVE_PATH")
long_word Query = Some (codes "QUERY_STRING")
long_word Status = Some (codes "RESPONSE_CODE")
long_word RequestLine = Some (codes "REQUEST_LINE")
long_word Protocol = Some (codes "PROTOCOL")
long_word RemoteIp = Some (codes "REMOTE_IP")
long_word RemoteHost = Some (codes "REMOTE_HOST")
long_word User = Some (codes "REMOTE_USER")
long_word Moment = Some (codes "DATE_TIME")
long_word Sent = Some (codes "BYTES_SENT")
long_word other = None

-- the long form of a piece that has one
abbrev pub long_form : Piece → Option (List ℕ)
long_form (Literal bytes) = None
long_form (Value a) = option_map (λ word. codes "%{" ++ (word ++ codes "}")) (long_word a)

-- the pieces spelled with the long form of the last one that has a long form, where one has
abbrev pub spelled_long : List Piece → Option (List ℕ)
spelled_long [] = None
spelled_long (p ∷ ps) =
    elim (spelled_long ps) [
      | Some later ↦ Some (spelled_piece p ++ later)
      | None ↦ option_map (λ form. form ++ spelled_template ps) (long_form p)
    ]

-- the formats `common` and `combined`
abbrev pub space : Piece
space = Literal (codes " ")

abbrev pub common : List Piece
common = Value RemoteHost ∷ space ∷ Value Ident ∷ space ∷ Value User ∷ space ∷ Value Moment ∷ Literal (codes " \"") ∷ Value RequestLine
    ∷ Literal (codes "\" ") ∷ Value Status ∷ space ∷ Value SentOrDash ∷ []

abbrev pub combined : List Piece
combined = common ++ Literal (codes " \"") ∷ Value (RequestField (codes "referer")) ∷ Literal (codes "\" \"") ∷ Value (RequestField (codes "user-agent"))
    ∷ Literal (codes "\"") ∷ []
