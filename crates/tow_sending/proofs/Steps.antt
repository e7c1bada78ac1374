-- What is left after a piece was put.
use Rattle.std.specs.Prelude.{Bool, true, false, nat_le, nat_lt, map, Option, IfSome, if◌then◌else◌}
use Rattle.std.proofs.Common.{◌≡◌, ℕ, zero, suc, ◌+◌, ◌-◌, ◌<◌, ◌≤◌, List, [], ◌∷◌, ◌++◌, length, take, drop, min, refl, sym, ap, ap₂, ◌∙◌, subst, arith, length-take, ◌⊎◌, inl, inr}
use Rattle.std.proofs.lemmas.Bool.Decides.{leb_tells}
use Rattle.std.proofs.lemmas.List.{take_all}
use Rattle.tow_model.specs.declared.limits.TheConstants.{BLOCK_LEN}
use Rattle.tow_model.specs.Texts.{Text, is_empty}
use Rattle.tow_semantics.specs.Sites.{file_bytes}
use Rattle.tow_wire.specs.Answers.{blocks, chunk_text, last_chunk, part_of}
use Rattle.circular_buffer.specs.Buffer.{Buffer, buffer}
use Rattle.tow_semantics.specs.Files.{Files}
use Rattle.tow_sending.specs.declared.sent.Sent.{Sent}
use Rattle.tow_sending.specs.declared.sent.Sent.TheVariants as sent
use Rattle.tow_sending.specs.declared.body.Body.{Body}
use Rattle.tow_sending.specs.declared.body.Body.TheVariants as rest
use Rattle.tow_sending.specs.Bodies.{body_pieces, pieces_in}
use Rattle.tow_sending.specs.Parts.{first_size}
use Rattle.tow_sending.specs.Pieces.{Piece, Own, Part, plain_pieces, chunk_pieces, parts, file_pieces, next_of, first_own, PutsText, left_if, left_after, gone, GainsFirst, Puts, told_of_file, room_of, reads_file, HasParts}
use Rattle.tow_sending.specs.declared.sent.Next.TheVariants as next
use Rattle.tow_sending.specs.Places.{Place, pieces_at}
use Rattle.tow_sending.proofs.Cutting.{blocks_more, parts_more}

-- ---- bytes

pub some_left : (bytes : List ℕ) → is_empty bytes ≡ false → 0 < length bytes
some_left [] none = absurd cc
some_left (b ∷ bytes) none = omega arith

pub none_left : (bytes : List ℕ) → is_empty bytes ≡ true → bytes ≡ []
none_left [] none = refl
none_left (b ∷ bytes) none = absurd cc

pub empty_of : (bytes : List ℕ) (b : Bool) → (b ≡ true → length bytes ≡ 0) → (b ≡ false → 0 < length bytes) → b ≡ is_empty bytes
empty_of [] true at_end before = refl
empty_of [] false at_end before = absurd (omega (arith, before refl))
empty_of (x ∷ bytes) true at_end before = absurd (omega (arith, at_end refl))
empty_of (x ∷ bytes) false at_end before = refl

-- ---- pieces

pub plain_first : (head : List ℕ) (rest : List Piece) → is_empty head ≡ false
    → plain_pieces head ++ rest ≡ Own (take BLOCK_LEN head) ∷ (plain_pieces (drop BLOCK_LEN head) ++ rest)
plain_first head rest some = ap (λ (bs : List (List ℕ)). map Own bs ++ rest) (blocks_more head (some_left head some))

pub plain_none : (head : List ℕ) (rest : List Piece) → is_empty head ≡ true → plain_pieces head ++ rest ≡ rest
plain_none head rest none = ap (λ (h : List ℕ). plain_pieces h ++ rest) (none_left head none)

pub plain_next : (bytes : List ℕ) → is_empty bytes ≡ false
    → plain_pieces bytes ≡ Own (take BLOCK_LEN bytes) ∷ plain_pieces (drop BLOCK_LEN bytes)
plain_next bytes some = ap (λ (bs : List (List ℕ)). map Own bs) (blocks_more bytes (some_left bytes some))

pub plain_end : (bytes : List ℕ) → is_empty bytes ≡ true → plain_pieces bytes ≡ []
plain_end bytes none = ap plain_pieces (none_left bytes none)

pub chunks_next : (bytes : List ℕ) → is_empty bytes ≡ false
    → chunk_pieces bytes ≡ Own (chunk_text (take BLOCK_LEN bytes)) ∷ chunk_pieces (drop BLOCK_LEN bytes)
chunks_next bytes some =
    ap (λ (bs : List (List ℕ)). map (λ block. Own (chunk_text block)) bs ++ Own last_chunk ∷ []) (blocks_more bytes (some_left bytes some))

pub chunks_end : (bytes : List ℕ) → is_empty bytes ≡ true → chunk_pieces bytes ≡ Own last_chunk ∷ []
chunks_end bytes none = ap chunk_pieces (none_left bytes none)

-- the place is past the end of the block, or at the end of the file, and then no part is left
later_parts : (path : Text) (at len : ℕ) → at < len
    → parts path (len - at - BLOCK_LEN) (at + BLOCK_LEN) (len - at - BLOCK_LEN) ≡ file_pieces path (at + min BLOCK_LEN (len - at)) len
later_parts path at len some = by (leb_tells (len - at) BLOCK_LEN)
  where
    by : ((nat_le (len - at) BLOCK_LEN ≡ true) × (len - at ≤ BLOCK_LEN)) ⊎ ((nat_le (len - at) BLOCK_LEN ≡ false) × (BLOCK_LEN < len - at))
        → parts path (len - at - BLOCK_LEN) (at + BLOCK_LEN) (len - at - BLOCK_LEN) ≡ file_pieces path (at + min BLOCK_LEN (len - at)) len
    by (inl (is, short)) =
        let none : len - at - BLOCK_LEN ≡ 0 = omega (arith, short) in
        let none_too : len - (at + min BLOCK_LEN (len - at)) ≡ 0 = omega (arith, short) in
        ap (λ (n : ℕ). parts path n (at + BLOCK_LEN) n) none ∙ sym (ap (λ (n : ℕ). parts path n (at + min BLOCK_LEN (len - at)) n) none_too)
    by (inr (is, long)) =
        let m : min BLOCK_LEN (len - at) ≡ BLOCK_LEN = omega (arith, long) in
        let left : len - at - BLOCK_LEN ≡ len - (at + min BLOCK_LEN (len - at)) = omega (arith, long) in
        ap₂ (λ (n : ℕ) (k : ℕ). parts path n (at + k) n) left (sym m)

pub file_next : (path : Text) (at len : ℕ) → at < len
    → file_pieces path at len ≡ Part path at (min BLOCK_LEN (len - at)) ∷ file_pieces path (at + min BLOCK_LEN (len - at)) len
file_next path at len some =
    parts_more path (len - at) at (len - at) (omega arith) (omega arith)
    ∙ ap (λ (ps : List Piece). Part path at (min BLOCK_LEN (len - at)) ∷ ps) (later_parts path at len some)

pub file_end : (path : Text) (at len : ℕ) → at ≡ len → file_pieces path at len ≡ []
file_end path at len same = ap (λ (n : ℕ). parts path n at n) none
  where
    none : len - at ≡ 0
    none = omega (arith, same)

-- ---- what comes next

next_of_own : (bs : List (List ℕ)) → next_of (map Own bs) ≡ next.File → ⊥
next_of_own [] is = absurd cc
next_of_own (b ∷ bs) is = absurd cc

pub plain_has_own : (bytes : List ℕ) → next_of (plain_pieces bytes) ≡ next.File → ⊥
plain_has_own bytes is = next_of_own (blocks bytes) is

next_of_chunks : (bs : List (List ℕ)) → next_of (map (λ block. Own (chunk_text block)) bs ++ Own last_chunk ∷ []) ≡ next.Own
next_of_chunks [] = refl
next_of_chunks (b ∷ bs) = refl

pub chunks_have_own : (bytes : List ℕ) → next_of (chunk_pieces bytes) ≡ next.Own
chunks_have_own bytes = next_of_chunks (blocks bytes)

next_of_parts : (path : Text) (n at left : ℕ) → next_of (parts path n at left) ≡ next.Own → ⊥
next_of_parts path zero at left is = absurd cc
next_of_parts path (suc n) at zero is = absurd cc
next_of_parts path (suc n) at (suc left) is = absurd cc

pub file_has_parts : (f : Place) → next_of (pieces_at f) ≡ next.Own → ⊥
file_has_parts f is = next_of_parts f.path (f.len - f.at) f.at (f.len - f.at) is

-- ---- what a put of the first piece leaves

pub own_text : (ps ps' : List Piece) (text : List ℕ) (r : Bool) (pipe pipe' : Buffer ℕ) → ps ≡ Own text ∷ ps'
    → PutsText text r pipe pipe' → PutsText (first_own ps) r pipe pipe'
own_text ps ps' text r pipe pipe' is puts = subst (λ (t : List ℕ). PutsText t r pipe pipe') (sym (ap first_own is)) puts

pub left_is : (ps ps' : List Piece) (p : Piece) (r : Bool) → ps ≡ p ∷ ps' → (if r then ps' else ps) ≡ left_if r ps
left_is ps ps' p true is = sym (ap (λ (l : List Piece). drop 1 l) is)
left_is ps ps' p false is = refl

-- ---- what the calls tell

left_after_gone : (rest pieces : List Piece) → left_after (gone rest) pieces ≡ drop 1 pieces
left_after_gone [] pieces = refl
left_after_gone (p ∷ rest) pieces = refl

puts_gone : (told : Option Files) (rest pieces : List Piece) (pipe pipe' : Buffer ℕ) → GainsFirst told pieces pipe pipe' → Puts told (gone rest) pieces pipe pipe'
puts_gone told [] pieces pipe pipe' gains = gains
puts_gone told (p ∷ rest) pieces pipe pipe' gains = gains

tells_gone : (room : ℕ) (pieces : List Piece) → nat_lt room (first_size pieces) ≡ false → gone (drop 1 pieces) ≡ told_of_file room pieces
tells_gone room [] fits = refl
tells_gone room (p ∷ rest) fits = sym (ap (λ (b : Bool). if b then sent.Full else gone rest) fits)

tells_full : (room : ℕ) (pieces : List Piece) → nat_lt room (first_size pieces) ≡ true → (next_of pieces ≡ next.Nothing → ⊥) → sent.Full ≡ told_of_file room pieces
tells_full room [] short some = absurd (some refl)
tells_full room (p ∷ rest) short some = sym (ap (λ (b : Bool). if b then sent.Full else gone rest) short)

own_size : (pieces : List Piece) → next_of pieces ≡ next.Own → first_size pieces ≡ length (first_own pieces)
own_size [] is = absurd cc
own_size (Own bytes ∷ rest) is = refl
own_size (Part path at len ∷ rest) is = absurd cc

own_gains : (told : Option Files) (pieces : List Piece) (pipe pipe' : Buffer ℕ) → next_of pieces ≡ next.Own
    → pipe' ≡ buffer (pipe.items ++ first_own pieces) pipe.capacity → GainsFirst told pieces pipe pipe'
own_gains told [] pipe pipe' is after = absurd cc
own_gains told (Own bytes ∷ rest) pipe pipe' is after = (bytes, refl, after)
own_gains told (Part path at len ∷ rest) pipe pipe' is after = absurd cc

not_nothing : (pieces : List Piece) → next_of pieces ≡ next.Own → next_of pieces ≡ next.Nothing → ⊥
not_nothing pieces a b = absurd cc

-- what a call told, left and put, as its contract has it
pub record Told (pieces left : List Piece) (tells : Sent) (pipe pipe' : Buffer ℕ) : Type 0 where
  pub tells_so : tells ≡ told_of_file (room_of pipe) pieces
  pub leaves : left ≡ left_after tells pieces
  pub puts : (told : Option Files) → Puts told tells pieces pipe pipe'

pub own_put : (pieces left : List Piece) (tells : Sent) (pipe pipe' : Buffer ℕ) → next_of pieces ≡ next.Own
    → PutsText (first_own pieces) true pipe pipe' → left ≡ drop 1 pieces → tells ≡ gone left → Told pieces left tells pipe pipe'
own_put pieces left tells pipe pipe' is puts leaves told =
    let tells_is : tells ≡ gone (drop 1 pieces) = told ∙ ap gone leaves in
    let fits : nat_lt (room_of pipe) (first_size pieces) ≡ false = ap (λ (n : ℕ). nat_lt (room_of pipe) n) (own_size pieces is) ∙ puts.0 in
    record {
      tells_so = tells_is ∙ tells_gone (room_of pipe) pieces fits;
      leaves = leaves ∙ sym (left_after_gone (drop 1 pieces) pieces) ∙ ap (λ (t : Sent). left_after t pieces) (sym tells_is);
      puts = λ files. subst (λ (t : Sent). Puts files t pieces pipe pipe') (sym tells_is)
          (puts_gone files (drop 1 pieces) pieces pipe pipe' (own_gains files pieces pipe pipe' is puts.1));
    }

pub own_full : (pieces left : List Piece) (pipe pipe' : Buffer ℕ) → next_of pieces ≡ next.Own
    → PutsText (first_own pieces) false pipe pipe' → left ≡ pieces → Told pieces left sent.Full pipe pipe'
own_full pieces left pipe pipe' is puts leaves =
    let short : nat_lt (room_of pipe) (first_size pieces) ≡ true = ap (λ (n : ℕ). nat_lt (room_of pipe) n) (own_size pieces is) ∙ puts.0 in
    record {
      tells_so = tells_full (room_of pipe) pieces short (not_nothing pieces is);
      leaves = leaves;
      puts = λ files. puts.1;
    }

-- the same of a file's piece, as far as the files are told
pub part_put_tells : (pieces left : List Piece) (tells : Sent) (room : ℕ) → nat_lt room (first_size pieces) ≡ false → left ≡ drop 1 pieces
    → tells ≡ gone left → tells ≡ told_of_file room pieces
part_put_tells pieces left tells room fits leaves told = told ∙ ap gone leaves ∙ tells_gone room pieces fits

pub part_put_leaves : (pieces left : List Piece) (tells : Sent) → left ≡ drop 1 pieces → tells ≡ gone left → left ≡ left_after tells pieces
part_put_leaves pieces left tells leaves told =
    leaves ∙ sym (left_after_gone (drop 1 pieces) pieces) ∙ ap (λ (t : Sent). left_after t pieces) (sym (told ∙ ap gone leaves))

pub part_put_puts : (files : Option Files) (pieces left : List Piece) (tells : Sent) (pipe pipe' : Buffer ℕ) → GainsFirst files pieces pipe pipe'
    → left ≡ drop 1 pieces → tells ≡ gone left → Puts files tells pieces pipe pipe'
part_put_puts files pieces left tells pipe pipe' gains leaves told =
    subst (λ (t : Sent). Puts files t pieces pipe pipe') (sym (told ∙ ap gone leaves)) (puts_gone files (drop 1 pieces) pieces pipe pipe' gains)

pub file_full : (pieces : List Piece) (room : ℕ) → next_of pieces ≡ next.File → nat_lt room (first_size pieces) ≡ true → sent.Full ≡ told_of_file room pieces
file_full pieces room is short = tells_full room pieces short (λ none. absurd cc)

pub reads_so : (pieces : List Piece) (room : ℕ) → next_of pieces ≡ next.File → nat_lt room (first_size pieces) ≡ false → reads_file room pieces ≡ true
reads_so [] room is fits = absurd cc
reads_so (Own bytes ∷ rest) room is fits = absurd cc
reads_so (Part path at len ∷ rest) room is fits = ap (λ (b : Bool). if b then false else true) fits

-- where the next piece is a file's, the head is all put
pub head_is_put : (head : List ℕ) (body : Body) → next_of (pieces_in head body) ≡ next.File → (b : Body) → pieces_in head b ≡ body_pieces b
head_is_put [] body is b = refl
head_is_put (x ∷ head) body is b =
    let own : next_of (plain_pieces (x ∷ head) ++ body_pieces body) ≡ next.Own = ap next_of (plain_first (x ∷ head) (body_pieces body) refl) in
    absurd cc

pub own_put_all : (ps pieces left : List Piece) (r : Bool) (tells : Sent) (pipe pipe' : Buffer ℕ) → ps ≡ pieces → next_of pieces ≡ next.Own
    → r ≡ true → PutsText (first_own ps) r pipe pipe' → left ≡ left_if r ps → tells ≡ gone left → Told pieces left tells pipe pipe'
own_put_all ps pieces left r tells pipe pipe' same is done puts leaves told =
    own_put pieces left tells pipe pipe' is
    (subst (λ (b : Bool). PutsText (first_own pieces) b pipe pipe') done (subst (λ (l : List Piece). PutsText (first_own l) r pipe pipe') same puts))
    (leaves ∙ ap₂ left_if done same) told

pub own_full_all : (ps pieces left : List Piece) (r : Bool) (pipe pipe' : Buffer ℕ) → ps ≡ pieces → next_of pieces ≡ next.Own
    → r ≡ false → PutsText (first_own ps) r pipe pipe' → left ≡ left_if r ps → Told pieces left sent.Full pipe pipe'
own_full_all ps pieces left r pipe pipe' same is done puts leaves =
    own_full pieces left pipe pipe' is
    (subst (λ (b : Bool). PutsText (first_own pieces) b pipe pipe') done (subst (λ (l : List Piece). PutsText (first_own l) r pipe pipe') same puts))
    (leaves ∙ ap₂ left_if done same)

-- ---- contents

pub plain_some : (bytes : List ℕ) → next_of (plain_pieces bytes) ≡ next.Own → is_empty bytes ≡ false
plain_some [] is = absurd cc
plain_some (b ∷ bytes) is = refl

pub chunks_left : (bytes bytes' : List ℕ) (r : Bool) (ps : List Piece) → is_empty bytes ≡ false → ps ≡ chunk_pieces bytes
    → bytes' ≡ (if r then drop BLOCK_LEN bytes else bytes) → chunk_pieces bytes' ≡ left_if r ps
chunks_left bytes bytes' true ps some is after = ap chunk_pieces after ∙ sym (ap (λ (l : List Piece). drop 1 l) (is ∙ chunks_next bytes some))
chunks_left bytes bytes' false ps some is after = ap chunk_pieces after ∙ sym is

pub plain_left : (bytes bytes' : List ℕ) (rest : List Piece) (r : Bool) (ps : List Piece) → is_empty bytes ≡ false → ps ≡ plain_pieces bytes ++ rest
    → bytes' ≡ (if r then drop BLOCK_LEN bytes else bytes) → plain_pieces bytes' ++ rest ≡ left_if r ps
plain_left bytes bytes' rest true ps some is after =
    ap (λ (l : List ℕ). plain_pieces l ++ rest) after ∙ sym (ap (λ (l : List Piece). drop 1 l) (is ∙ plain_first bytes rest some))
plain_left bytes bytes' rest false ps some is after = ap (λ (l : List ℕ). plain_pieces l ++ rest) after ∙ sym is

pub plain_left_alone : (bytes bytes' : List ℕ) (r : Bool) (ps : List Piece) → is_empty bytes ≡ false → ps ≡ plain_pieces bytes
    → bytes' ≡ (if r then drop BLOCK_LEN bytes else bytes) → plain_pieces bytes' ≡ left_if r ps
plain_left_alone bytes bytes' true ps some is after = ap plain_pieces after ∙ sym (ap (λ (l : List Piece). drop 1 l) (is ∙ plain_next bytes some))
plain_left_alone bytes bytes' false ps some is after = ap plain_pieces after ∙ sym is

pub own_is_no_file : (b : Body) (f : Place) → b ≡ rest.File f → next_of (body_pieces b) ≡ next.Own → ⊥
own_is_no_file b f is own = file_has_parts f (sym (ap (λ (x : Body). next_of (body_pieces x)) is) ∙ own)

pub file_is_not_plain : (b : Body) (bytes : List ℕ) → b ≡ rest.Plain bytes → next_of (body_pieces b) ≡ next.File → ⊥
file_is_not_plain b bytes is own = plain_has_own bytes (sym (ap (λ (x : Body). next_of (body_pieces x)) is) ∙ own)

pub file_is_no_chunks : (b : Body) (bytes : List ℕ) → b ≡ rest.Chunks bytes → next_of (body_pieces b) ≡ next.File → ⊥
file_is_no_chunks b bytes is own =
    let chunks : next_of (chunk_pieces bytes) ≡ next.Own = chunks_have_own bytes in
    let same : next_of (chunk_pieces bytes) ≡ next.File = sym (ap (λ (x : Body). next_of (body_pieces x)) is) ∙ own in
    absurd cc

-- ---- files

pub place_some : (f : Place) → f.at ≤ f.len → next_of (pieces_at f) ≡ next.File → f.at < f.len
place_some f within is = by (leb_tells f.len f.at)
  where
    by : ((nat_le f.len f.at ≡ true) × (f.len ≤ f.at)) ⊎ ((nat_le f.len f.at ≡ false) × (f.at < f.len)) → f.at < f.len
    by (inl (e, over)) =
        let none : next_of (pieces_at f) ≡ next.Nothing = ap next_of (file_end f.path f.at f.len (omega (arith, within, over))) in
        absurd cc
    by (inr (e, some)) = some

pub has_first : (files : Files) (f : Place) → f.at < f.len → HasParts files (pieces_at f) → f.at + min BLOCK_LEN (f.len - f.at) ≤ length (file_bytes files f.path)
has_first files f some has =
    let first = subst (λ (ps : List Piece). HasParts files ps) (file_next f.path f.at f.len some) has in
    first.0

pub part_gained : (told : Option Files) (f : Place) (piece : List ℕ) (count r : ℕ) (pipe pipe' : Buffer ℕ) → f.at < f.len
    → count ≡ min BLOCK_LEN (f.len - f.at) → count ≤ length piece → count ≤ room_of pipe
    → r ≡ min (length (take count piece)) (pipe.capacity - length pipe.items) → pipe' ≡ buffer (pipe.items ++ take r (take count piece)) pipe.capacity
    → IfSome told (λ files. take count piece ≡ part_of f.at count (file_bytes files f.path)) → GainsFirst told (pieces_at f) pipe pipe'
part_gained told f piece count r pipe pipe' some is there room r_is after read =
    let len : length (take count piece) ≡ count = omega (arith, length-take count piece, there) in
    let all : r ≡ count = omega (arith, r_is, len, room) in
    let whole : take r (take count piece) ≡ take count piece = take_all r (take count piece) (omega (arith, len, all)) in
    subst (λ (ps : List Piece). GainsFirst told ps pipe pipe') (sym (file_next f.path f.at f.len some)) (
      take count piece,
      (len ∙ is, subst (λ (n : ℕ). IfSome told (λ files. take count piece ≡ part_of f.at n (file_bytes files f.path))) is read),
      after ∙ ap (λ (t : List ℕ). buffer (pipe.items ++ t) pipe.capacity) whole,
    )

pub part_left : (f : Place) (count : ℕ) → f.at < f.len → count ≡ min BLOCK_LEN (f.len - f.at)
    → file_pieces f.path (f.at + count) f.len ≡ drop 1 (pieces_at f)
part_left f count some is =
    ap (λ (n : ℕ). file_pieces f.path (f.at + n) f.len) is ∙ sym (ap (λ (l : List Piece). drop 1 l) (file_next f.path f.at f.len some))

pub part_size : (f : Place) → f.at < f.len → first_size (pieces_at f) ≡ min BLOCK_LEN (f.len - f.at)
part_size f some = ap first_size (file_next f.path f.at f.len some)

-- ---- arms that are not reached

pub own_is_there : (b : Body) → (b ≡ rest.Nothing) ⊎ ((x : Place) × (b ≡ rest.File x)) → next_of (body_pieces b) ≡ next.Own → ⊥
own_is_there b (inl e) own =
    let none : next_of (body_pieces b) ≡ next.Nothing = ap (λ (x : Body). next_of (body_pieces x)) e in
    absurd cc
own_is_there b (inr (x, e)) own = own_is_no_file b x e own

pub file_is_there : (b : Body) → (b ≡ rest.Nothing) ⊎ (((x : List ℕ) × (b ≡ rest.Plain x)) ⊎ ((x : List ℕ) × (b ≡ rest.Chunks x)))
    → next_of (body_pieces b) ≡ next.File → ⊥
file_is_there b (inl e) file =
    let none : next_of (body_pieces b) ≡ next.Nothing = ap (λ (x : Body). next_of (body_pieces x)) e in
    absurd cc
file_is_there b (inr (inl (x, e))) file = file_is_not_plain b x e file
file_is_there b (inr (inr (x, e))) file = file_is_no_chunks b x e file

not_less : (a b : ℕ) → b ≤ a → nat_lt a b ≡ false
not_less a b h = grind (arith, h)

pub part_fits : (f g : Place) (pipe : Buffer ℕ) (count room : ℕ) → f ≡ g → f.at < f.len → count ≡ min BLOCK_LEN (f.len - f.at)
    → room + length pipe.items ≡ pipe.capacity → count ≤ room → nat_lt (room_of pipe) (first_size (pieces_at g)) ≡ false
part_fits f g pipe count room same some is there fits =
    subst (λ (p : Place). nat_lt (room_of pipe) (first_size (pieces_at p)) ≡ false) same
    (not_less (room_of pipe) (first_size (pieces_at f)) (omega (arith, part_size f some, is, there, fits)))
