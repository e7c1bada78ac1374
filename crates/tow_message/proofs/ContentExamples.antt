-- The definitions at work: contents, and an input from its first byte to its last.
use Rattle.std.proofs.Common.{◌≡◌, ℕ, ◌<◌, Bool, true, false, true≢false, List, [], ◌∷◌, ◌++◌, length, All, Some, None, refl, sym, ap, ◌∙◌, arith, append_assoc, lit≤, lit<}
use Rattle.std.specs.Prelude.{codes}
use Rattle.std.specs.Str.{byte, is_utf8, chars}
use Rattle.std.specs.Char.{is_ascii_hexdigit}
use lib.Utf8.{encode}
use Rattle.std.proofs.lemmas.List.Elements.{All-nil, All-cons, All-head}
use Rattle.httparse.specs.Grammar.{RequestHead, crlf, ChunkLine, print_chunk_line, print_extension}
use Rattle.httparse.proofs.OnLiterals.{httparse_on_literals}
use Rattle.tow_model.specs.declared.request.Framing.TheVariants.{Chunked}
use Rattle.tow_model.specs.declared.content.Content.{Content}
use Rattle.tow_model.specs.declared.content.Content.TheVariants.{Whole, Bad, TooLong}
use Rattle.tow_model.specs.declared.limits.TheConstants.{LOCAL_PEER}
use Rattle.tow_message.specs.Heads.{request_of}
use Rattle.tow_message.specs.FirstHead.{read_then, read_many, read_newline, span_of, head_of, first_head}
use Rattle.tow_message.specs.Contents.{Chunk, IsChunk, IsSizeLine, IsContent, IsBad, print_chunks, print_chunk}
use Rattle.tow_message.specs.Stream.{ReadsStream, nothing, next}
use Rattle.tow_message.proofs.FirstHeads.{finds_head}

abbrev line : List ℕ → List ℕ
line bytes = bytes ++ codes "\r\n"

abbrev size_line : List ℕ → ChunkLine
size_line digits = record { digits = digits; pad = []; extension = None }

abbrev three : Chunk
three = record { line = size_line (codes "3"); bytes = codes "abc" }

all_one : (P : ℕ → Type 0) (b : ℕ) → P b → All P (b ∷ [])
all_one P b is = All-cons P b [] is (All-nil P)

is_size_line : (d : ℕ) → is_ascii_hexdigit d ≡ true → IsSizeLine (size_line (d ∷ []))
unfolding print_chunk_line
is_size_line d is = record {
  line = record { digits = (lit< tt, lit≤ tt, all_one (λ v. is_ascii_hexdigit v ≡ true) d is); pad = All-nil _; extension = tt };
  digits_fit = lit≤ tt;
  bytes_fit = lit≤ tt;
}

-- echo-chunked's content
abc : IsContent Chunked (line (codes "3") ++ line (codes "abc") ++ line (codes "0") ++ line []) (Whole (codes "abc"))
unfolding print_chunk_line
abc = (
  three ∷ [],
  record {
    are = record {
      each = All-cons IsChunk three [] (record { line = is_size_line (byte "3") refl; some = lit< tt; size = refl }) (All-nil IsChunk);
      fit = lit≤ tt;
    };
    last = size_line (codes "0");
    is_last = record { line = is_size_line (byte "0") refl; size = refl };
    trailer = [];
    is_trailer = record { lines_are = All-nil _; bytes_fit = lit≤ tt };
    printed = refl;
  },
  refl,
)

-- a content in chunks begins with a digit
abbrev starts_with_digit : List ℕ → Bool
starts_with_digit [] = false
starts_with_digit (b ∷ bytes) = is_ascii_hexdigit b

line_starts : (digits rest : List ℕ) → 0 < length digits → All (λ v. is_ascii_hexdigit v ≡ true) digits → starts_with_digit (digits ++ rest) ≡ true
line_starts [] rest some all = absurd (omega (arith, some))
line_starts (d ∷ digits) rest some all = All-head (λ v. is_ascii_hexdigit v ≡ true) d digits all

size_line_split : (l : ChunkLine) (rest : List ℕ) → (tail : List ℕ) × (print_chunk_line l ++ rest ≡ l.digits ++ tail)
unfolding print_chunk_line
size_line_split l rest = (
  l.pad ++ (print_extension l.extension ++ (13 ∷ 10 ∷ rest)),
  append_assoc (l.digits ++ l.pad ++ print_extension l.extension) (13 ∷ 10 ∷ []) rest
      ∙ append_assoc (l.digits ++ l.pad) (print_extension l.extension) (13 ∷ 10 ∷ rest)
      ∙ append_assoc l.digits l.pad (print_extension l.extension ++ (13 ∷ 10 ∷ rest)),
)

size_line_starts : (l : ChunkLine) (rest : List ℕ) → IsSizeLine l → starts_with_digit (print_chunk_line l ++ rest) ≡ true
size_line_starts l rest is =
    let split = size_line_split l rest in
    ap starts_with_digit split.1 ∙ line_starts l.digits split.0 is.line.digits.0 is.line.digits.2

chunks_start : (chunks : List Chunk) (l : ChunkLine) (rest : List ℕ) → All IsChunk chunks → IsSizeLine l
    → starts_with_digit (print_chunks chunks ++ (print_chunk_line l ++ rest)) ≡ true
chunks_start [] l rest all is = size_line_starts l rest is
chunks_start (c ∷ chunks) l rest all is =
    let more = c.bytes ++ (13 ∷ 10 ∷ (print_chunks chunks ++ (print_chunk_line l ++ rest))) in
    let split : print_chunks (c ∷ chunks) ++ (print_chunk_line l ++ rest) ≡ print_chunk_line c.line ++ more =
    append_assoc (print_chunk c) (print_chunks chunks) (print_chunk_line l ++ rest)
    ∙ append_assoc (print_chunk_line c.line ++ c.bytes) (13 ∷ 10 ∷ []) (print_chunks chunks ++ (print_chunk_line l ++ rest))
    ∙ append_assoc (print_chunk_line c.line) c.bytes (13 ∷ 10 ∷ (print_chunks chunks ++ (print_chunk_line l ++ rest))) in
    ap starts_with_digit split ∙ size_line_starts c.line more (All-head IsChunk c chunks all).line

content_starts : (text : List ℕ) (given : Content) (rest : List ℕ) → IsContent Chunked text given → starts_with_digit (text ++ rest) ≡ true
content_starts text (Whole bytes) rest is =
    let i = is.1 in
    ap (λ (t : List ℕ). starts_with_digit (t ++ rest)) i.printed
    ∙ ap starts_with_digit (append_assoc (print_chunks is.0 ++ print_chunk_line i.last) _ rest ∙ append_assoc (print_chunks is.0) (print_chunk_line i.last) _)
    ∙ chunks_start is.0 i.last _ i.are.each i.is_last.line
content_starts text TooLong rest is =
    let i = is.1 in
    ap (λ (t : List ℕ). starts_with_digit (t ++ rest)) i.printed
    ∙ ap starts_with_digit (append_assoc (print_chunks is.0) (print_chunk_line i.line) rest)
    ∙ chunks_start is.0 i.line rest i.are.each i.is_line
content_starts text Bad rest is = absurd is

-- echo-chunked: `g` begins no content
no_digit : IsBad Chunked (line (codes "g"))
no_digit more rest given has =
    true≢false (sym (content_starts has.text given rest has.is_content) ∙ ap starts_with_digit (sym has.joined))

-- ---- hi, from its first byte to its last

abbrev hi_input : List ℕ
hi_input = line (codes "GET /hi HTTP/1.1") ++ line (codes "Host: a") ++ line []

abbrev hi_head : RequestHead
hi_head = record {
  blank = [];
  method = codes "GET";
  target = codes "/hi";
  minor = 1;
  line_end = crlf;
  fields = record { name = codes "Host"; raw = codes " a"; end = crlf } ∷ [];
  last = crlf;
}

hi_found : first_head hi_input ≡ Some (hi_head, [])
unfolding httparse_on_literals read_then read_many read_newline span_of head_of is_utf8 chars encode
hi_found = refl

hi_reads : ReadsStream LOCAL_PEER hi_input (next (request_of LOCAL_PEER hi_head) [] nothing)
unfolding httparse_on_literals
hi_reads = (
  [],
  [],
  record { head = hi_head; reads = (finds_head hi_input hi_head []).1 hi_found; served = refl; request = refl },
  record { text = []; is_content = (refl, refl); joined = refl },
  record { bytes = All-nil _; few = lit< tt },
)
