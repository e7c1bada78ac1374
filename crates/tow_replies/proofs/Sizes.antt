-- The pieces of an answer fit an empty pipe.
use Rattle.std.specs.Prelude.{false, if◌then◌else◌, ◌==◌}
use Rattle.std.specs.Fmt.{digits, digits_onto, digit_glyph}
use Rattle.std.proofs.Common.{◌≡◌, ℕ, zero, suc, ◌+◌, ◌-◌, ◌/◌, ◌%◌, ◌≤◌, Bool, true, List, [], ◌∷◌, ◌++◌, length, take, drop, map, min, All, arith, length-append, length-take, lit≤}
use Rattle.std.proofs.lemmas.List.Elements.{All-nil, All-cons, All-append, All-map, All-weaker}
use Rattle.httparse.specs.Ascii.{crlf_bytes}
use Rattle.tow_model.specs.declared.limits.TheConstants.{BLOCK_LEN, PIPE_LEN}
use Rattle.tow_model.specs.declared.request.Version.{Version}
use Rattle.tow_model.specs.declared.request.Version.TheVariants.{V10, V11}
use Rattle.tow_model.specs.declared.request.Request.{Request}
use Rattle.tow_model.specs.declared.record.Choice.{Choice}
use Rattle.tow_model.specs.declared.record.Choice.TheVariants.{Undecided, Empty, Whole, File, Listing}
use Rattle.tow_model.specs.declared.answer.Answer.{Answer}
use Rattle.tow_model.specs.Texts.{Text}
use Rattle.tow_semantics.specs.Values.{has_no_content}
use Rattle.tow_wire.specs.Answers.{cut, blocks, chunk_text, last_chunk, head_text}
use Rattle.tow_sending.specs.Pieces.{Piece, Own, Part, size_of, plain_pieces, chunk_pieces, parts, content_pieces, pieces_of}
use Rattle.tow_replies.specs.Replies.{FitPipe}

-- ---- sizes

-- at most one digit is put before the others at each step
onto_short : (k base : ℕ) (upper : Bool) (n : ℕ) (acc : List ℕ) → length (digits_onto k base upper n acc) ≤ k + length acc
onto_short zero base upper n acc = omega arith
onto_short (suc k) base upper n acc =
    by (n / base == 0) (onto_short k base upper (n / base) (digit_glyph upper (n % base) ∷ acc))
  where
    by : (last : Bool) → length (digits_onto k base upper (n / base) (digit_glyph upper (n % base) ∷ acc)) ≤ k + length (digit_glyph upper (n % base) ∷ acc)
        → length (if last then digit_glyph upper (n % base) ∷ acc else digits_onto k base upper (n / base) (digit_glyph upper (n % base) ∷ acc)) ≤ suc k + length acc
    by true more = omega arith
    by false more = omega (arith, more)

-- a number has at most 64 digits
digits_short : (base : ℕ) (upper : Bool) (n : ℕ) → length (digits base upper n) ≤ 64
unfolding digits
digits_short base upper n = omega (arith, onto_short 64 base upper n [])

-- a chunk of a block: its size line, its bytes and two line ends
chunk_fits : (block : List ℕ) → length block ≤ BLOCK_LEN → length (chunk_text block) ≤ PIPE_LEN
chunk_fits block small =
    let size = digits 16 false (length block) in
    let line : length (size ++ crlf_bytes) ≡ length size + 2 = length-append size crlf_bytes in
    let filled : length (size ++ crlf_bytes ++ block) ≡ length (size ++ crlf_bytes) + length block = length-append (size ++ crlf_bytes) block in
    let all : length (chunk_text block) ≡ length (size ++ crlf_bytes ++ block) + 2 = length-append (size ++ crlf_bytes ++ block) crlf_bytes in
    omega (arith, small, digits_short 16 false (length block), line, filled, all)

-- ---- pieces

-- what is cut has pieces of this size at most
cut_short : (size n : ℕ) (bytes : List ℕ) → All (λ (block : List ℕ). length block ≤ size) (cut size n bytes)
cut_short size zero bytes = All-nil _
cut_short size (suc n) [] = All-nil _
cut_short size (suc n) (b ∷ bytes) =
    All-cons (λ (block : List ℕ). length block ≤ size) (take size (b ∷ bytes)) (cut size n (drop size (b ∷ bytes))) (omega (arith, length-take size (b ∷ bytes)))
    (cut_short size n (drop size (b ∷ bytes)))

-- and blocks are cut
blocks_short : (bytes : List ℕ) → All (λ (block : List ℕ). length block ≤ BLOCK_LEN) (blocks bytes)
blocks_short bytes = cut_short BLOCK_LEN (length bytes) bytes

-- the piece fits an empty pipe
abbrev fits : Piece → Type 0
fits p = size_of p ≤ PIPE_LEN

plain_fit : (bytes : List ℕ) → FitPipe (plain_pieces bytes)
plain_fit bytes =
    All-map fits Own (blocks bytes)
    (All-weaker (λ (block : List ℕ). length block ≤ BLOCK_LEN) (λ (block : List ℕ). length block ≤ PIPE_LEN) (λ block small. omega (arith, small)) (blocks bytes) (blocks_short bytes))

chunks_fit : (bytes : List ℕ) → FitPipe (chunk_pieces bytes)
chunks_fit bytes =
    let made : List ℕ → Piece = λ block. Own (chunk_text block) in
    All-append fits (map made (blocks bytes)) (Own last_chunk ∷ [])
    (All-map fits made (blocks bytes) (All-weaker (λ (block : List ℕ). length block ≤ BLOCK_LEN) (λ (block : List ℕ). length (chunk_text block) ≤ PIPE_LEN) chunk_fits (blocks bytes) (blocks_short bytes)))
    (All-cons fits (Own last_chunk) [] (lit≤ tt) (All-nil fits))

-- a part of a file is a block at most
parts_fit : (path : Text) (n at left : ℕ) → FitPipe (parts path n at left)
parts_fit path zero at left = All-nil fits
parts_fit path (suc n) at zero = All-nil fits
parts_fit path (suc n) at (suc left) =
    All-cons fits (Part path at (min BLOCK_LEN (suc left))) (parts path n (at + BLOCK_LEN) (suc left - BLOCK_LEN)) (omega arith)
    (parts_fit path n (at + BLOCK_LEN) (suc left - BLOCK_LEN))

content_fits : (version : Version) (choice : Choice) → FitPipe (content_pieces version choice)
content_fits version Undecided = All-nil fits
content_fits version Empty = All-nil fits
content_fits version (Whole bytes) = plain_fit bytes
content_fits version (File path len) = parts_fit path (len - 0) 0 (len - 0)
content_fits V10 (Listing bytes) = plain_fit bytes
content_fits V11 (Listing bytes) = chunks_fit bytes

body_fits : (version : Version) (choice : Choice) (none : Bool) → FitPipe (if none then [] else content_pieces version choice)
body_fits version choice true = All-nil fits
body_fits version choice false = content_fits version choice

-- each piece of an answer fits an empty pipe
pub pieces_fit : (q : Request) (a : Answer) → FitPipe (pieces_of q a)
pieces_fit q a =
    All-append fits (plain_pieces (head_text a.status a.fields)) (if has_no_content q a.status then [] else content_pieces q.version a.choice)
    (plain_fit (head_text a.status a.fields)) (body_fits q.version a.choice (has_no_content q a.status))
