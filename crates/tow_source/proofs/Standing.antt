-- What the text before each place of a chunked content is.
use Rattle.std.proofs.Common.{◌≡◌, ℕ, ◌+◌, ◌<◌, ◌≤◌, min, List, [], ◌∷◌, ◌++◌, length, All, flat_map}
use Rattle.std.specs.Char.{is_ascii_hexdigit}
use Rattle.std.specs.Str.Parse.{digits_value}
use Rattle.httparse.specs.Ascii.{crlf_bytes}
use Rattle.httparse.specs.Grammar.{AllPass, ChunkLine, print_chunk_line, chunk_size, is_extension_byte, is_ows}
use Rattle.tow_model.specs.declared.content.Content.TheVariants as Contents
use Rattle.tow_model.specs.declared.request.Framing.TheVariants.{Chunked}
use Rattle.tow_model.specs.declared.limits.TheConstants.{MAX_CONTENT_LEN, MAX_CHUNK_LINE_LEN, MAX_TRAILER_LEN}
use Rattle.tow_message.specs.Contents.{IsSizeLine, Chunk, IsTrailerLine, IsLastChunk, print_chunks, bytes_of, AreChunks, IsContent}
use Rattle.tow_source.specs.declared.place.Place.{Place}
use Rattle.tow_source.specs.declared.place.Place.TheVariants.{SizeStart, Digits, Padding, Extension, SizeLf, Data, DataLf, TrailerStart, TrailerText, TrailerLf, LastLf, Ended, Bad, TooLong}

-- the same number, or both are above the limit
abbrev pub SameSize : ℕ → ℕ → Type 0
SameSize size value = min size (MAX_CONTENT_LEN + 1) ≡ min value (MAX_CONTENT_LEN + 1)

pub record IsSize (size : ℕ) (digits : List ℕ) : Type 0 where
  pub some : 0 < length digits
  pub few : length digits ≤ 15
  pub all : AllPass is_ascii_hexdigit digits
  pub value : SameSize size (digits_value 16 digits)

-- the text is whole chunks, and leaves this room
pub record Chunks (room : ℕ) (text given : List ℕ) : Type 0 where
  pub chunks : List Chunk
  pub are : AreChunks chunks
  pub total : room + length (bytes_of chunks) ≡ MAX_CONTENT_LEN
  pub printed : text ≡ print_chunks chunks
  pub gives : given ≡ bytes_of chunks

-- after whole chunks stands a line under way
pub record Behind (room : ℕ) (taken given : List ℕ) (Is : List ℕ → Type 0) : Type 0 where
  pub front : List ℕ
  pub line : List ℕ
  pub chunks : Chunks room front given
  pub is : Is line
  pub joined : taken ≡ front ++ line

pub record InDigits (len size : ℕ) (line : List ℕ) : Type 0 where
  pub sized : IsSize size line
  pub count : length line ≡ len

pub record InPadding (len size : ℕ) (line : List ℕ) : Type 0 where
  pub digits : List ℕ
  pub pad : List ℕ
  pub sized : IsSize size digits
  pub blank : AllPass is_ows pad
  pub printed : line ≡ digits ++ pad
  pub count : length line ≡ len
  pub fits : len + 2 ≤ MAX_CHUNK_LINE_LEN

pub record InExtension (len size : ℕ) (line : List ℕ) : Type 0 where
  pub digits : List ℕ
  pub pad : List ℕ
  pub text : List ℕ
  pub sized : IsSize size digits
  pub blank : AllPass is_ows pad
  pub plain : AllPass is_extension_byte text
  pub printed : line ≡ (digits ++ pad) ++ 59 ∷ text
  pub count : length line ≡ len
  pub fits : len + 2 ≤ MAX_CHUNK_LINE_LEN

-- a size line without its LF
pub record AtLf (size : ℕ) (line : List ℕ) : Type 0 where
  pub whole : ChunkLine
  pub is : IsSizeLine whole
  pub printed : print_chunk_line whole ≡ line ++ 10 ∷ []
  pub value : SameSize size (chunk_size whole)

-- after whole chunks stand a size line and a part of its data
pub record InChunk (room left : ℕ) (taken given : List ℕ) : Type 0 where
  pub chunks : List Chunk
  pub are : AreChunks chunks
  pub line : ChunkLine
  pub is_line : IsSizeLine line
  pub bytes : List ℕ
  pub parted : length bytes + left ≡ chunk_size line
  pub some : 0 < chunk_size line
  pub total : room + (length (bytes_of chunks) + chunk_size line) ≡ MAX_CONTENT_LEN
  pub printed : taken ≡ print_chunks chunks ++ (print_chunk_line line ++ bytes)
  pub gives : given ≡ bytes_of chunks ++ bytes

-- the data is whole, and its CR stands after it
pub record AtDataLf (room : ℕ) (taken given : List ℕ) : Type 0 where
  pub text : List ℕ
  pub chunk : InChunk room 0 text given
  pub joined : taken ≡ text ++ 13 ∷ []

abbrev pub line_texts : List (List ℕ) → List ℕ
line_texts lines = flat_map (λ line. line ++ crlf_bytes) lines

-- after the last chunk stand whole trailer lines, of so many bytes
pub record InTrailer (len : ℕ) (taken given : List ℕ) : Type 0 where
  pub chunks : List Chunk
  pub are : AreChunks chunks
  pub last : ChunkLine
  pub is_last : IsLastChunk last
  pub lines : List (List ℕ)
  pub each : All IsTrailerLine lines
  pub count : length (line_texts lines) ≡ len
  pub fits : len + 2 ≤ MAX_TRAILER_LEN
  pub printed : taken ≡ (print_chunks chunks ++ print_chunk_line last) ++ line_texts lines
  pub gives : given ≡ bytes_of chunks

-- and a line under way, of which this stands there: with its own end there are so many bytes
pub record InLine (len : ℕ) (taken given behind : List ℕ) : Type 0 where
  pub base : ℕ
  pub front : List ℕ
  pub trailer : InTrailer base front given
  pub line : List ℕ
  pub is : IsTrailerLine line
  pub count : base + (length line + 2) ≡ len
  pub fits : len + 2 ≤ MAX_TRAILER_LEN
  pub joined : taken ≡ front ++ (line ++ behind)

pub record AtLastLf (taken given : List ℕ) : Type 0 where
  pub base : ℕ
  pub front : List ℕ
  pub trailer : InTrailer base front given
  pub joined : taken ≡ front ++ 13 ∷ []

abbrev pub Stands : ℕ → Place → List ℕ → List ℕ → Type 0
Stands room SizeStart taken given = Chunks room taken given
Stands room (Digits len size) taken given = Behind room taken given (InDigits len size)
Stands room (Padding len size) taken given = Behind room taken given (InPadding len size)
Stands room (Extension len size) taken given = Behind room taken given (InExtension len size)
Stands room (SizeLf size) taken given = Behind room taken given (AtLf size)
Stands room (Data left) taken given = InChunk room left taken given
Stands room DataLf taken given = AtDataLf room taken given
Stands room (TrailerStart len) taken given = InTrailer len taken given
Stands room (TrailerText len) taken given = InLine len taken given []
Stands room (TrailerLf len) taken given = InLine len taken given (13 ∷ [])
Stands room LastLf taken given = AtLastLf taken given
Stands room Ended taken given = IsContent Chunked taken (Contents.Whole given)
Stands room Bad taken given = Unit {0}
Stands room TooLong taken given = IsContent Chunked taken Contents.TooLong
