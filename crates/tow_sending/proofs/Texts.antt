-- The pieces of an answer are its bytes.
use Rattle.std.specs.Prelude.{Bool, true, false, if◌then◌else◌, nat_le, Some}
use Rattle.std.proofs.Common.{◌≡◌, ℕ, zero, suc, ◌+◌, ◌-◌, ◌<◌, ◌≤◌, List, [], ◌∷◌, ◌++◌, length, take, drop, map, min, refl, sym, ap, ap₂, ◌∙◌, arith, append_assoc, length-drop, take-append-drop, ◌⊎◌, inl, inr}
use Rattle.std.specs.List.{flat_map}
use Rattle.std.proofs.lemmas.Bool.Decides.{leb_tells}
use Rattle.std.proofs.lemmas.List.{drop-drop, drop-take, take-take}
use Rattle.circular_buffer.specs.Buffer.{Buffer}
use Rattle.tow_model.specs.declared.limits.TheConstants.{BLOCK_LEN}
use Rattle.tow_model.specs.declared.request.Version.{Version}
use Rattle.tow_model.specs.declared.request.Version.TheVariants.{V10, V11}
use Rattle.tow_model.specs.declared.record.Choice.{Choice}
use Rattle.tow_model.specs.declared.record.Choice.TheVariants.{Undecided, Empty, Whole, File, Listing}
use Rattle.tow_model.specs.Texts.{Text}
use Rattle.tow_wire.specs.Answers.{cut, blocks, chunk_text, last_chunk, chunked, part_of, head_text, framed_by, known_length, content_of}
use Rattle.tow_semantics.specs.Values.{has_no_content}
use Rattle.tow_semantics.specs.Files.{Files}
use Rattle.tow_semantics.specs.Sites.{file_bytes}
use Rattle.tow_sending.specs.declared.sent.Sent.TheVariants as sent
use Rattle.tow_sending.specs.Pieces.{Piece, Own, Part, text_of, texts, plain_pieces, chunk_pieces, parts, file_pieces, content_pieces, PiecesAre, HasFile, HasParts, PartsAreThere, PartsStay, GainsFirst, IsTextOf, PutsKeep}

-- ---- bytes that the answer has itself

texts_of_cut : (file : Text → Text) (size n : ℕ) (bytes : List ℕ) → 0 < size → length bytes ≤ n → texts file (map Own (cut size n bytes)) ≡ bytes
texts_of_cut file size zero [] some fits = refl
texts_of_cut file size (suc n) [] some fits = refl
texts_of_cut file size zero (x ∷ bytes) some fits = absurd (omega (arith, fits))
texts_of_cut file size (suc n) (x ∷ bytes) some fits =
    ap (λ (l : List ℕ). take size (x ∷ bytes) ++ l)
    (texts_of_cut file size n (drop size (x ∷ bytes)) some (omega (arith, length-drop size (x ∷ bytes), some, fits)))
    ∙ take-append-drop size (x ∷ bytes)

pub texts_of_plain : (file : Text → Text) (bytes : List ℕ) → texts file (plain_pieces bytes) ≡ bytes
texts_of_plain file bytes = texts_of_cut file BLOCK_LEN (length bytes) bytes (omega arith) (omega arith)

texts_of_chunks : (file : Text → Text) (bs : List (List ℕ)) → texts file (map (λ block. Own (chunk_text block)) bs) ≡ flat_map chunk_text bs
texts_of_chunks file [] = refl
texts_of_chunks file (b ∷ bs) = ap (λ (l : List ℕ). chunk_text b ++ l) (texts_of_chunks file bs)

texts_of_two : (file : Text → Text) (a b : List Piece) → texts file (a ++ b) ≡ texts file a ++ texts file b
texts_of_two file [] b = refl
texts_of_two file (p ∷ a) b = ap (λ (l : List ℕ). text_of file p ++ l) (texts_of_two file a b) ∙ sym (append_assoc (text_of file p) (texts file a) (texts file b))

pub texts_of_chunked : (file : Text → Text) (bytes : List ℕ) → texts file (chunk_pieces bytes) ≡ chunked bytes
texts_of_chunked file bytes =
    texts_of_two file (map (λ block. Own (chunk_text block)) (blocks bytes)) (Own last_chunk ∷ [])
    ∙ ap (λ (l : List ℕ). l ++ last_chunk) (texts_of_chunks file (blocks bytes))

-- ---- bytes of a file

pub joined : (f : List ℕ) (at a b : ℕ) → take a (drop at f) ++ take b (drop (at + a) f) ≡ take (a + b) (drop at f)
joined f at a b =
    ap (λ (l : List ℕ). take a (drop at f) ++ take b l) (sym (drop-drop a at f))
    ∙ ap (λ (l : List ℕ). take a (drop at f) ++ l) (sym (drop-take a b (drop at f)))
    ∙ ap (λ (l : List ℕ). l ++ drop a (take (a + b) (drop at f))) (sym (take-take a (a + b) (drop at f) (omega arith)))
    ∙ take-append-drop a (take (a + b) (drop at f))

none_taken : (l : List ℕ) → take 0 l ≡ []
none_taken [] = refl
none_taken (x ∷ l) = refl

nothing_after : (l : List ℕ) → l ++ [] ≡ l
nothing_after [] = refl
nothing_after (x ∷ l) = ap (λ (k : List ℕ). x ∷ k) (nothing_after l)

texts_of_parts : (file : Text → Text) (path : Text) (n at left : ℕ) → left ≤ n → texts file (parts path n at left) ≡ part_of at left (file path)
texts_of_parts file path zero at zero fits = sym (none_taken (drop at (file path)))
texts_of_parts file path zero at (suc left) fits = absurd (omega (arith, fits))
texts_of_parts file path (suc n) at zero fits = sym (none_taken (drop at (file path)))
texts_of_parts file path (suc n) at (suc left) fits =
    by (leb_tells (suc left) BLOCK_LEN) (texts_of_parts file path n (at + BLOCK_LEN) (suc left - BLOCK_LEN) (omega (arith, fits)))
  where
    by : ((nat_le (suc left) BLOCK_LEN ≡ true) × (suc left ≤ BLOCK_LEN)) ⊎ ((nat_le (suc left) BLOCK_LEN ≡ false) × (BLOCK_LEN < suc left))
        → texts file (parts path n (at + BLOCK_LEN) (suc left - BLOCK_LEN)) ≡ part_of (at + BLOCK_LEN) (suc left - BLOCK_LEN) (file path)
        → texts file (parts path (suc n) at (suc left)) ≡ part_of at (suc left) (file path)
    by (inl (is, short)) later =
        let m : min BLOCK_LEN (suc left) ≡ suc left = omega (arith, short) in
        let none : suc left - BLOCK_LEN ≡ 0 = omega (arith, short) in
        ap₂ (λ (k : ℕ) (l : List ℕ). part_of at k (file path) ++ l) m
        (later ∙ ap (λ (k : ℕ). part_of (at + BLOCK_LEN) k (file path)) none ∙ none_taken (drop (at + BLOCK_LEN) (file path)))
        ∙ nothing_after (part_of at (suc left) (file path))
    by (inr (is, long)) later =
        let m : min BLOCK_LEN (suc left) ≡ BLOCK_LEN = omega (arith, long) in
        let all : BLOCK_LEN + (suc left - BLOCK_LEN) ≡ suc left = omega (arith, long) in
        ap₂ (λ (k : ℕ) (l : List ℕ). part_of at k (file path) ++ l) m later
        ∙ joined (file path) at BLOCK_LEN (suc left - BLOCK_LEN)
        ∙ ap (λ (k : ℕ). part_of at k (file path)) all

-- ---- laws

whole_file : (file : Text → Text) (path : Text) (len : ℕ) → texts file (file_pieces path 0 len) ≡ part_of 0 len (file path)
whole_file file path len =
    let all : len - 0 ≡ len = omega arith in
    texts_of_parts file path (len - 0) 0 (len - 0) (omega arith) ∙ ap (λ (k : ℕ). part_of 0 k (file path)) all

content_is : (file : Text → Text) (version : Version) (choice : Choice)
    → texts file (content_pieces version choice) ≡ framed_by version (known_length choice) (content_of file choice)
content_is file V10 Undecided = refl
content_is file V11 Undecided = refl
content_is file V10 Empty = refl
content_is file V11 Empty = refl
content_is file V10 (Whole bytes) = texts_of_plain file bytes
content_is file V11 (Whole bytes) = texts_of_plain file bytes
content_is file V10 (File path len) = whole_file file path len
content_is file V11 (File path len) = whole_file file path len
content_is file V10 (Listing bytes) = texts_of_plain file bytes
content_is file V11 (Listing bytes) = texts_of_chunked file bytes

body_is : (file : Text → Text) (version : Version) (choice : Choice) (none : Bool)
    → texts file (if none then [] else content_pieces version choice)
    ≡ (if none then [] else framed_by version (known_length choice) (if none then [] else content_of file choice))
body_is file version choice true = refl
body_is file version choice false = content_is file version choice

pub pieces_are : PiecesAre
pieces_are file q a =
    let none : Bool = has_no_content q a.status in
    texts_of_two file (plain_pieces (head_text a.status a.fields)) (if none then [] else content_pieces q.version a.choice)
    ∙ ap₂ (λ (l : List ℕ) (k : List ℕ). l ++ k) (texts_of_plain file (head_text a.status a.fields)) (body_is file q.version a.choice none)

has_two : (files : Files) (a b : List Piece) → HasParts files a → HasParts files b → HasParts files (a ++ b)
has_two files [] b ha hb = hb
has_two files (Own bytes ∷ a) b ha hb = has_two files a b ha hb
has_two files (Part path at len ∷ a) b ha hb = (ha.0, has_two files a b ha.1 hb)

has_plain : (files : Files) (bs : List (List ℕ)) → HasParts files (map Own bs)
has_plain files [] = tt
has_plain files (b ∷ bs) = has_plain files bs

has_chunks : (files : Files) (bs : List (List ℕ)) → HasParts files (map (λ block. Own (chunk_text block)) bs)
has_chunks files [] = tt
has_chunks files (b ∷ bs) = has_chunks files bs

has_file : (files : Files) (path : Text) (n at left : ℕ) → left ≤ n → (0 < left → at + left ≤ length (file_bytes files path))
    → HasParts files (parts path n at left)
has_file files path zero at left fits has = tt
has_file files path (suc n) at zero fits has = tt
has_file files path (suc n) at (suc left) fits has =
    let all : at + suc left ≤ length (file_bytes files path) = has (omega arith) in
    (omega (arith, all), has_file files path n (at + BLOCK_LEN) (suc left - BLOCK_LEN) (omega (arith, fits)) (λ some. omega (arith, all, some)))

has_content : (files : Files) (version : Version) (choice : Choice) → HasFile files choice → HasParts files (content_pieces version choice)
has_content files version Undecided has = tt
has_content files version Empty has = tt
has_content files version (Whole bytes) has = has_plain files (blocks bytes)
has_content files version (File path len) has = has_file files path (len - 0) 0 (len - 0) (omega arith) (λ some. omega (arith, has))
has_content files V10 (Listing bytes) has = has_plain files (blocks bytes)
has_content files V11 (Listing bytes) has =
    has_two files (map (λ block. Own (chunk_text block)) (blocks bytes)) (Own last_chunk ∷ []) (has_chunks files (blocks bytes)) tt

has_body : (files : Files) (version : Version) (choice : Choice) (none : Bool) → HasFile files choice
    → HasParts files (if none then [] else content_pieces version choice)
has_body files version choice true has = tt
has_body files version choice false has = has_content files version choice has

pub parts_are_there : PartsAreThere
parts_are_there files q a has =
    has_two files (plain_pieces (head_text a.status a.fields)) (if has_no_content q a.status then [] else content_pieces q.version a.choice)
    (has_plain files (blocks (head_text a.status a.fields))) (has_body files q.version a.choice (has_no_content q a.status) has)

pub has_after_first : (files : Files) (pieces : List Piece) → HasParts files pieces → HasParts files (drop 1 pieces)
has_after_first files [] has = tt
has_after_first files (Own bytes ∷ rest) has = has
has_after_first files (Part path at len ∷ rest) has = has.1

pub parts_stay : PartsStay
parts_stay files sent.Piece pieces has = has_after_first files pieces has
parts_stay files sent.Whole pieces has = has_after_first files pieces has
parts_stay files sent.NeedWorker pieces has = has
parts_stay files sent.Full pieces has = has
parts_stay files sent.FolderFault pieces has = has

text_is : (files : Files) (p : Piece) (text : List ℕ) → IsTextOf (Some files) p text → text ≡ text_of (file_bytes files) p
text_is files (Own bytes) text is = is
text_is files (Part path at len) text is = is.1

first_kept : (files : Files) (pieces : List Piece) (pipe pipe' : Buffer ℕ) → GainsFirst (Some files) pieces pipe pipe'
    → pipe'.items ++ texts (file_bytes files) (drop 1 pieces) ≡ pipe.items ++ texts (file_bytes files) pieces
first_kept files [] pipe pipe' gains = ap (λ (b : Buffer ℕ). b.items ++ []) gains
first_kept files (p ∷ rest) pipe pipe' gains =
    ap (λ (b : Buffer ℕ). b.items ++ texts (file_bytes files) rest) gains.2
    ∙ append_assoc pipe.items gains.0 (texts (file_bytes files) rest)
    ∙ ap (λ (l : List ℕ). pipe.items ++ (l ++ texts (file_bytes files) rest)) (text_is files p gains.0 gains.1)

as_it_was : (files : Files) (pieces : List Piece) (pipe pipe' : Buffer ℕ) → pipe' ≡ pipe
    → pipe'.items ++ texts (file_bytes files) pieces ≡ pipe.items ++ texts (file_bytes files) pieces
as_it_was files pieces pipe pipe' same = ap (λ (b : Buffer ℕ). b.items ++ texts (file_bytes files) pieces) same

pub puts_keep : PutsKeep
puts_keep files sent.Piece pieces pipe pipe' puts = first_kept files pieces pipe pipe' puts
puts_keep files sent.Whole pieces pipe pipe' puts = first_kept files pieces pipe pipe' puts
puts_keep files sent.NeedWorker pieces pipe pipe' puts = as_it_was files pieces pipe pipe' puts
puts_keep files sent.Full pieces pipe pipe' puts = as_it_was files pieces pipe pipe' puts
puts_keep files sent.FolderFault pieces pipe pipe' puts = as_it_was files pieces pipe pipe' puts
