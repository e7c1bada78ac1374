-- The pieces in which an answer is put into a pipe, and what each call of an answer under way tells and puts.
use Rattle.std.specs.Prelude.{◌≡◌, ℕ, zero, suc, ◌+◌, ◌-◌, ◌≤◌, min, Bool, true, false, nat_lt, List, [], ◌∷◌, ◌++◌, length, drop, map, if◌then◌else◌, Option, Some, IfSome}
use Rattle.std.specs.List.{flat_map}
use Rattle.circular_buffer.specs.Buffer.{Buffer, buffer}
use Rattle.tow_model.specs.declared.limits.TheConstants.{BLOCK_LEN}
use Rattle.tow_model.specs.declared.request.Version.{Version}
use Rattle.tow_model.specs.declared.request.Version.TheVariants.{V10, V11}
use Rattle.tow_model.specs.declared.request.Request.{Request}
use Rattle.tow_model.specs.declared.record.Choice.{Choice}
use Rattle.tow_model.specs.declared.record.Choice.TheVariants.{Undecided, Empty, Whole, File, Listing}
use Rattle.tow_model.specs.declared.answer.Answer.{Answer}
use Rattle.tow_model.specs.Texts.{Text}
use Rattle.tow_wire.specs.Answers.{head_text, blocks, chunk_text, last_chunk, part_of, answer}
use Rattle.tow_semantics.specs.Values.{has_no_content}
use Rattle.tow_semantics.specs.Files.{Files}
use Rattle.tow_semantics.specs.Sites.{file_bytes}
use Rattle.tow_folder.specs.Folders.{is_askable}
use Rattle.tow_sending.specs.declared.sent.Sent.{Sent}
use Rattle.tow_sending.specs.declared.sent.Sent.TheVariants as sent
use Rattle.tow_sending.specs.declared.sent.Next.{Next}
use Rattle.tow_sending.specs.declared.sent.Next.TheVariants as next

-- a piece of an answer
pub data Piece : Type 0 where
  -- bytes that the answer has itself
  Own : List ℕ → Piece
  -- so many bytes of the file of this path, from this place on
  Part : Text → ℕ → ℕ → Piece

-- how many bytes it has
abbrev pub size_of : Piece → ℕ
size_of (Own bytes) = length bytes
size_of (Part path at len) = len

-- its bytes, over these files
abbrev pub text_of : (Text → Text) → Piece → List ℕ
text_of file (Own bytes) = bytes
text_of file (Part path at len) = part_of at len (file path)

-- the bytes of pieces in their order
abbrev pub texts : (Text → Text) → List Piece → List ℕ
texts file = flat_map (text_of file)

-- ---- the pieces of an answer

-- bytes as they are, in blocks
abbrev pub plain_pieces : List ℕ → List Piece
plain_pieces bytes = map Own (blocks bytes)

-- each block as a chunk, and the last chunk's line
abbrev pub chunk_pieces : List ℕ → List Piece
chunk_pieces bytes = map (λ block. Own (chunk_text block)) (blocks bytes) ++ Own last_chunk ∷ []

-- so many bytes of a file from this place on, in blocks; at most n of them
abbrev pub parts : Text → ℕ → ℕ → ℕ → List Piece
parts path zero at left = []
parts path (suc n) at zero = []
parts path (suc n) at (suc left) =
    Part path at (min BLOCK_LEN (suc left)) ∷ parts path n (at + BLOCK_LEN) (suc left - BLOCK_LEN)

-- the file up to this length, from this place on
abbrev pub file_pieces : Text → ℕ → ℕ → List Piece
file_pieces path at len = parts path (len - at) at (len - at)

-- the content of a choice: a listing in chunks, but for a request of HTTP/1.0
abbrev pub content_pieces : Version → Choice → List Piece
content_pieces version Undecided = []
content_pieces version Empty = []
content_pieces version (Whole bytes) = plain_pieces bytes
content_pieces version (File path len) = file_pieces path 0 len
content_pieces V10 (Listing bytes) = plain_pieces bytes
content_pieces V11 (Listing bytes) = chunk_pieces bytes

-- the head, and then the content if the answer sends one
abbrev pub pieces_of : Request → Answer → List Piece
pieces_of q a =
    plain_pieces (head_text a.status a.fields)
    ++ (if has_no_content q a.status then [] else content_pieces q.version a.choice)

-- a path of a file is one that a folder can be asked for
abbrev pub IsAskable : Choice → Type 0
IsAskable Undecided = Unit {0}
IsAskable Empty = Unit {0}
IsAskable (Whole bytes) = Unit {0}
IsAskable (File path len) = is_askable path ≡ true
IsAskable (Listing bytes) = Unit {0}

-- the files have all the bytes of these pieces
abbrev pub HasParts : Files → List Piece → Type 0
HasParts files [] = Unit {0}
HasParts files (Own bytes ∷ rest) = HasParts files rest
HasParts files (Part path at len ∷ rest) = (at + len ≤ length (file_bytes files path)) × HasParts files rest

-- ---- what the calls tell

abbrev pub room_of : Buffer ℕ → ℕ
room_of pipe = pipe.capacity - length pipe.items

-- a piece was put, and these are left
abbrev pub gone : List Piece → Sent
gone [] = sent.Whole
gone (p ∷ rest) = sent.Piece

-- the piece is put if the pipe has room for it
abbrev pub where_room : ℕ → Piece → List Piece → Sent
where_room room p rest = if nat_lt room (size_of p) then sent.Full else gone rest

-- what `put` tells, with these pieces left and so many bytes of room
abbrev pub told_of_put : ℕ → List Piece → Sent
told_of_put room [] = sent.Whole
told_of_put room (Own bytes ∷ rest) = where_room room (Own bytes) rest
told_of_put room (Part path at len ∷ rest) = sent.NeedWorker

-- what `put_file` tells, but for a fault of the folder
abbrev pub told_of_file : ℕ → List Piece → Sent
told_of_file room [] = sent.Whole
told_of_file room (p ∷ rest) = where_room room p rest

-- the next piece is a file's, and the pipe has room for it
abbrev pub reads_file : ℕ → List Piece → Bool
reads_file room [] = false
reads_file room (Own bytes ∷ rest) = false
reads_file room (Part path at len ∷ rest) = if nat_lt room len then false else true

-- what is left after a call
abbrev pub left_after : Sent → List Piece → List Piece
left_after sent.Piece pieces = drop 1 pieces
left_after sent.Whole pieces = drop 1 pieces
left_after sent.NeedWorker pieces = pieces
left_after sent.Full pieces = pieces
left_after sent.FolderFault pieces = pieces

-- ---- what the calls put

-- the bytes are the piece's, as far as the files are told
abbrev pub IsTextOf : Option Files → Piece → List ℕ → Type 0
IsTextOf told (Own bytes) text = text ≡ bytes
IsTextOf told (Part path at len) text =
    (length text ≡ len) × IfSome told (λ files. text ≡ part_of at len (file_bytes files path))

-- the pipe gained the first of the pieces, if there is one
abbrev pub GainsFirst : Option Files → List Piece → Buffer ℕ → Buffer ℕ → Type 0
GainsFirst told [] pipe pipe' = pipe' ≡ pipe
GainsFirst told (p ∷ rest) pipe pipe' =
    (text : List ℕ) × IsTextOf told p text × (pipe' ≡ buffer (pipe.items ++ text) pipe.capacity)

-- what a call put
abbrev pub Puts : Option Files → Sent → List Piece → Buffer ℕ → Buffer ℕ → Type 0
Puts told sent.Piece pieces pipe pipe' = GainsFirst told pieces pipe pipe'
Puts told sent.Whole pieces pipe pipe' = GainsFirst told pieces pipe pipe'
Puts told sent.NeedWorker pieces pipe pipe' = pipe' ≡ pipe
Puts told sent.Full pieces pipe pipe' = pipe' ≡ pipe
Puts told sent.FolderFault pieces pipe pipe' = pipe' ≡ pipe

-- ---- inside the crate

-- what is to be put next
abbrev pub next_of : List Piece → Next
next_of [] = next.Nothing
next_of (Own bytes ∷ rest) = next.Own
next_of (Part path at len ∷ rest) = next.File

-- the first piece's own bytes
abbrev pub first_own : List Piece → List ℕ
first_own [] = []
first_own (Own bytes ∷ rest) = bytes
first_own (Part path at len ∷ rest) = []

-- what is left of the pieces, if the first was put, and if it was not
abbrev pub left_if : Bool → List Piece → List Piece
left_if true pieces = drop 1 pieces
left_if false pieces = pieces

-- these bytes were put, exactly if there was room for all of them
abbrev pub PutsText : List ℕ → Bool → Buffer ℕ → Buffer ℕ → Type 0
PutsText text true pipe pipe' =
    (nat_lt (room_of pipe) (length text) ≡ false) × (pipe' ≡ buffer (pipe.items ++ text) pipe.capacity)
PutsText text false pipe pipe' = (nat_lt (room_of pipe) (length text) ≡ true) × (pipe' ≡ pipe)

-- ---- laws

-- the pieces of an answer are its bytes
abbrev pub PiecesAre : Type 0
PiecesAre = (file : Text → Text) (q : Request) (a : Answer) → texts file (pieces_of q a) ≡ answer file q a

-- Of the file of an answer the files have all the bytes that the choice names.
abbrev pub HasFile : Files → Choice → Type 0
HasFile files Undecided = Unit {0}
HasFile files Empty = Unit {0}
HasFile files (Whole bytes) = Unit {0}
HasFile files (File path len) = len ≤ length (file_bytes files path)
HasFile files (Listing bytes) = Unit {0}

-- then they have all its pieces
abbrev pub PartsAreThere : Type 0
PartsAreThere = (files : Files) (q : Request) (a : Answer) → HasFile files a.choice → HasParts files (pieces_of q a)

-- and they have those that are left after a call
abbrev pub PartsStay : Type 0
PartsStay = (files : Files) (tells : Sent) (pieces : List Piece) → HasParts files pieces → HasParts files (left_after tells pieces)

-- What the pipe holds and what is left are, after a call, as before it.
abbrev pub PutsKeep : Type 0
PutsKeep =
    (files : Files) (tells : Sent) (pieces : List Piece) (pipe pipe' : Buffer ℕ)
    → Puts (Some files) tells pieces pipe pipe'
    → pipe'.items ++ texts (file_bytes files) (left_after tells pieces) ≡ pipe.items ++ texts (file_bytes files) pieces
