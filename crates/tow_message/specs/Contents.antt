-- The content of a request: what stands behind its head, by its framing.
use Rattle.std.specs.Prelude.{◌≡◌, ℕ, ◌+◌, ◌<◌, ◌≤◌, List, [], ◌++◌, length, All, Option, Some, None}
use Rattle.std.specs.List.{flat_map}
use Rattle.httparse.specs.Ascii.{crlf_bytes}
use Rattle.httparse.specs.Grammar.{AllPass, ChunkLine, IsChunkLine, print_chunk_line, chunk_size, is_extension_byte}
use Rattle.tow_model.specs.declared.request.Framing.{Framing}
use Rattle.tow_model.specs.declared.request.Framing.TheVariants.{Empty, Fixed, Chunked}
use Rattle.tow_model.specs.declared.content.Content.{Content}
use Rattle.tow_model.specs.declared.content.Content.TheVariants.{Whole, Bad, TooLong}
use Rattle.tow_model.specs.declared.limits.TheConstants.{MAX_CHUNK_LINE_LEN, MAX_CONTENT_LEN, MAX_TRAILER_LEN}

-- a chunk's first line: httparse's, with at most 15 digits, in not too many bytes with its line end
pub record IsSizeLine (l : ChunkLine) : Type 0 where
  pub line : IsChunkLine l
  pub digits_fit : length l.digits ≤ 15
  pub bytes_fit : length (print_chunk_line l) ≤ MAX_CHUNK_LINE_LEN

pub record Chunk : Type 0 where
  pub line : ChunkLine
  pub bytes : List ℕ

-- its line gives its size, which is not 0
pub record IsChunk (c : Chunk) : Type 0 where
  pub line : IsSizeLine c.line
  pub some : 0 < chunk_size c.line
  pub size : length c.bytes ≡ chunk_size c.line

abbrev pub print_chunk : Chunk → List ℕ
print_chunk c = print_chunk_line c.line ++ c.bytes ++ crlf_bytes

-- the last chunk is a line of size 0
pub record IsLastChunk (l : ChunkLine) : Type 0 where
  pub line : IsSizeLine l
  pub size : chunk_size l ≡ 0

-- a trailer line has one or more bytes other than CR and LF
pub record IsTrailerLine (bytes : List ℕ) : Type 0 where
  pub some : 0 < length bytes
  pub plain : AllPass is_extension_byte bytes

-- each with its line end, and an empty line
abbrev pub print_trailer : List (List ℕ) → List ℕ
print_trailer lines = flat_map (λ line. line ++ crlf_bytes) lines ++ crlf_bytes

pub record IsTrailer (lines : List (List ℕ)) : Type 0 where
  pub lines_are : All IsTrailerLine lines
  pub bytes_fit : length (print_trailer lines) ≤ MAX_TRAILER_LEN

abbrev pub print_chunks : List Chunk → List ℕ
print_chunks chunks = flat_map print_chunk chunks

abbrev pub bytes_of : List Chunk → List ℕ
bytes_of chunks = flat_map (λ c. c.bytes) chunks

-- chunks that are not too long together
pub record AreChunks (chunks : List Chunk) : Type 0 where
  pub each : All IsChunk chunks
  pub fit : length (bytes_of chunks) ≤ MAX_CONTENT_LEN

-- The text is chunks, a last chunk and a trailer part.
pub record IsChunked (text : List ℕ) (chunks : List Chunk) : Type 0 where
  pub are : AreChunks chunks
  pub last : ChunkLine
  pub is_last : IsLastChunk last
  pub trailer : List (List ℕ)
  pub is_trailer : IsTrailer trailer
  pub printed : text ≡ print_chunks chunks ++ print_chunk_line last ++ print_trailer trailer

-- The text is chunks and a line whose size takes the sum past the limit.
pub record IsTooMuch (text : List ℕ) (chunks : List Chunk) : Type 0 where
  pub are : AreChunks chunks
  pub line : ChunkLine
  pub is_line : IsSizeLine line
  pub over : MAX_CONTENT_LEN < length (bytes_of chunks) + chunk_size line
  pub printed : text ≡ print_chunks chunks ++ print_chunk_line line

-- The text is the whole content of this framing, which gives this; too long content is seen where it passes the limit.
abbrev pub IsContent : Framing → List ℕ → Content → Type 0
IsContent Empty text (Whole bytes) = (text ≡ []) × (bytes ≡ [])
IsContent Empty text TooLong = ⊥
IsContent Empty text Bad = ⊥
IsContent (Fixed n) text (Whole bytes) = (n ≤ MAX_CONTENT_LEN) × (length text ≡ n) × (bytes ≡ text)
IsContent (Fixed n) text TooLong = (MAX_CONTENT_LEN < n) × (text ≡ [])
IsContent (Fixed n) text Bad = ⊥
IsContent Chunked text (Whole bytes) = (chunks : List Chunk) × IsChunked text chunks × (bytes ≡ bytes_of chunks)
IsContent Chunked text TooLong = (chunks : List Chunk) × IsTooMuch text chunks
IsContent Chunked text Bad = ⊥

-- the input begins with such a content, and rest follows
pub record HasContent (framing : Framing) (input : List ℕ) (given : Content) (rest : List ℕ) : Type 0 where
  pub text : List ℕ
  pub is_content : IsContent framing text given
  pub joined : input ≡ text ++ rest

-- the input is a front of such a content, whose end has not come
pub record IsShort (framing : Framing) (input : List ℕ) : Type 0 where
  pub more : List ℕ
  pub given : Content
  pub is_content : IsContent framing (input ++ more) given
  pub some : 0 < length more

-- whatever bytes follow, the input begins with no content
abbrev pub IsBad : Framing → List ℕ → Type 0
IsBad framing input = (more rest : List ℕ) (given : Content) → ¬ (HasContent framing (input ++ more) given rest)

-- What the input has for this framing, `None` while the content's end has not come.
abbrev pub Gives : Framing → List ℕ → Option Content → Type 0
Gives framing input None = IsShort framing input
Gives framing input (Some Bad) = IsBad framing input
Gives framing input (Some TooLong) = (rest : List ℕ) × HasContent framing input TooLong rest
Gives framing input (Some (Whole bytes)) = (rest : List ℕ) × HasContent framing input (Whole bytes) rest

-- content is a function: an input begins with at most one
abbrev pub ContentIsOne : Framing → List ℕ → Type 0
ContentIsOne framing input =
    (given other : Content) (rest after : List ℕ)
    → HasContent framing input given rest → HasContent framing input other after → (given ≡ other) × (rest ≡ after)
