-- A step after a size line leads to the place where the longer text stands.
use Rattle.std.proofs.Common.{◌≡◌, ℕ, ◌+◌, ◌-◌, ◌<◌, ◌≤◌, Bool, true, false, List, [], ◌∷◌, ◌++◌, length, nat_lt, ◌==◌, if◌then◌else◌, refl, sym, ap, ap₂, ◌∙◌, subst, arith, append_assoc, append-nil, length-append}
use Rattle.std.proofs.lemmas.Bool.{cond_both, ltb-true, ltb-false, eqb-true, eqb-false}
use Rattle.std.proofs.lemmas.List.Elements.{All-nil, All-cons, All-push}
use Rattle.std.proofs.lemmas.Grind.{flat_map-append}
use Rattle.httparse.specs.Ascii.{crlf_bytes}
use Rattle.httparse.specs.Grammar.{ChunkLine, print_chunk_line, chunk_size, is_extension_byte}
use Rattle.tow_model.specs.declared.content.Content.TheVariants as Contents
use Rattle.tow_model.specs.declared.request.Framing.TheVariants.{Chunked}
use Rattle.tow_message.specs.Contents.{Chunk, IsChunk, print_chunk, IsTrailerLine, print_chunks, bytes_of, IsContent}
use Rattle.tow_source.specs.declared.place.Place.{Place}
use Rattle.tow_source.specs.declared.place.Place.TheVariants.{SizeStart, Digits, Padding, Extension, SizeLf, Data, DataLf, TrailerStart, TrailerText, TrailerLf, LastLf, Ended, Bad, TooLong}
use Rattle.tow_source.specs.Places.{first_digit, next_digit, after_digits, in_extension, after_size_line, after_data, at_line_feed, trailer_start, trailer_text, place_after, room_after, goes_on, given_at}
use Rattle.tow_source.proofs.Standing.{Chunks, Behind, AtLf, InChunk, AtDataLf, line_texts, InTrailer, InLine, AtLastLf, Stands}
use Rattle.tow_source.proofs.SizeSteps.{not_line_end, at_size_start, at_padding, at_digits, at_extension}

-- ---- at the end of a size line

-- its LF joined to what is before it
whole_line : (taken front line : List ℕ) (b : ℕ) (whole : ChunkLine) (chunks : List Chunk) → taken ≡ front ++ line → front ≡ print_chunks chunks
    → print_chunk_line whole ≡ line ++ 10 ∷ [] → b ≡ 10 → taken ++ b ∷ [] ≡ print_chunks chunks ++ print_chunk_line whole
whole_line taken front line b whole chunks joined printed is e =
    ap₂ (λ (t : List ℕ) (c : ℕ). t ++ c ∷ []) joined e
    ∙ append_assoc front line (10 ∷ [])
    ∙ ap₂ (λ (f l : List ℕ). f ++ l) printed (sym is)

too_much : (room size b : ℕ) (taken given : List ℕ) → Behind room taken given (AtLf size) → b ≡ 10 → room < size
    → IsContent Chunked (taken ++ b ∷ []) Contents.TooLong
too_much room size b taken given x e over = (
  x.chunks.chunks,
  record {
    are = x.chunks.are;
    line = x.is.whole;
    is_line = x.is.is;
    over = omega (arith, over, x.is.value, x.chunks.total);
    printed = whole_line taken x.front x.line b x.is.whole x.chunks.chunks x.joined x.chunks.printed x.is.printed e;
  },
)

last_chunk : (room size b : ℕ) (taken given : List ℕ) → Behind room taken given (AtLf size) → b ≡ 10 → size ≡ 0
    → InTrailer 0 (taken ++ b ∷ []) given
last_chunk room size b taken given x e none = record {
  chunks = x.chunks.chunks;
  are = x.chunks.are;
  last = x.is.whole;
  is_last = record { line = x.is.is; size = omega (arith, x.is.value, none) };
  lines = [];
  each = All-nil IsTrailerLine;
  count = refl;
  fits = omega arith;
  printed = whole_line taken x.front x.line b x.is.whole x.chunks.chunks x.joined x.chunks.printed x.is.printed e
      ∙ sym (append-nil (print_chunks x.chunks.chunks ++ print_chunk_line x.is.whole));
  gives = x.chunks.gives;
}

chunk_begins : (room size b : ℕ) (taken given : List ℕ) → Behind room taken given (AtLf size) → b ≡ 10 → size ≤ room → 0 < size
    → InChunk (room - size) size (taken ++ b ∷ []) given
chunk_begins room size b taken given x e fits some =
    let same : size ≡ chunk_size x.is.whole = omega (arith, x.is.value, x.chunks.total, fits) in
    record {
      chunks = x.chunks.chunks;
      are = x.chunks.are;
      line = x.is.whole;
      is_line = x.is.is;
      bytes = [];
      parted = omega (arith, same);
      some = omega (arith, same, some);
      total = omega (arith, same, x.chunks.total, fits);
      printed = whole_line taken x.front x.line b x.is.whole x.chunks.chunks x.joined x.chunks.printed x.is.printed e
          ∙ ap (λ (l : List ℕ). print_chunks x.chunks.chunks ++ l) (sym (append-nil (print_chunk_line x.is.whole)));
      gives = x.chunks.gives ∙ sym (append-nil (bytes_of x.chunks.chunks));
    }

not_zero : (n : ℕ) → (n == 0) ≡ false → 0 < n
not_zero n e = let other = eqb-false n 0 e in omega (arith, other)

pub at_size_end : (room size b : ℕ) (taken given : List ℕ) → Behind room taken given (AtLf size)
    → Stands (room - size) (after_size_line room size b) (taken ++ b ∷ []) given
at_size_end room size b taken given x =
    cond_both (b == 10) _ Bad (λ (p : Place). Stands (room - size) p (taken ++ b ∷ []) given)
    (λ lf. let e = eqb-true b 10 lf in
    cond_both (nat_lt room size) TooLong _ (λ (p : Place). Stands (room - size) p (taken ++ b ∷ []) given)
    (λ over. too_much room size b taken given x e (ltb-true room size over))
    (λ fits. cond_both (size == 0) (TrailerStart 0) (Data size) (λ (p : Place). Stands (room - size) p (taken ++ b ∷ []) given)
    (λ none. last_chunk room size b taken given x e (eqb-true size 0 none))
    (λ some. chunk_begins room size b taken given x e (ltb-false room size fits) (not_zero size some))))
    (λ other. tt)

-- ---- in a chunk

data_grows : (room left b : ℕ) (taken given : List ℕ) → InChunk room left taken given → 0 < left
    → InChunk room (left - 1) (taken ++ b ∷ []) (given ++ b ∷ [])
data_grows room left b taken given x some = record {
  chunks = x.chunks;
  are = x.are;
  line = x.line;
  is_line = x.is_line;
  bytes = x.bytes ++ b ∷ [];
  parted = omega (arith, x.parted, some, length-append x.bytes (b ∷ []));
  some = x.some;
  total = x.total;
  printed = ap (λ (t : List ℕ). t ++ b ∷ []) x.printed
      ∙ append_assoc (print_chunks x.chunks) (print_chunk_line x.line ++ x.bytes) (b ∷ [])
      ∙ ap (λ (l : List ℕ). print_chunks x.chunks ++ l) (append_assoc (print_chunk_line x.line) x.bytes (b ∷ []));
  gives = ap (λ (t : List ℕ). t ++ b ∷ []) x.gives ∙ append_assoc (bytes_of x.chunks) x.bytes (b ∷ []);
}

data_ends : (room b : ℕ) (taken given : List ℕ) → InChunk room 0 taken given → b ≡ 13 → AtDataLf room (taken ++ b ∷ []) given
data_ends room b taken given x e = record { text = taken; chunk = x; joined = ap (λ (c : ℕ). taken ++ c ∷ []) e }

at_data : (room left b : ℕ) (taken given : List ℕ) → InChunk room left taken given
    → Stands room (after_data left b) (taken ++ b ∷ []) (given ++ given_at (Data left) b)
at_data room left b taken given x = by (left == 0) refl
  where
    by : (t : Bool) → (left == 0) ≡ t
        → Stands room (if t then (if b == 13 then DataLf else Bad) else Data (left - 1)) (taken ++ b ∷ []) (given ++ (if t then [] else b ∷ []))
    by true e =
        let none : InChunk room 0 taken given = subst (λ (n : ℕ). InChunk room n taken given) (eqb-true left 0 e) x in
        subst (λ (g : List ℕ). Stands room (if b == 13 then DataLf else Bad) (taken ++ b ∷ []) g) (sym (append-nil given))
        (cond_both (b == 13) DataLf Bad (λ (p : Place). Stands room p (taken ++ b ∷ []) given)
        (λ cr. data_ends room b taken given none (eqb-true b 13 cr))
        (λ other. tt))
    by false e = data_grows room left b taken given x (not_zero left e)

abbrev chunk_of : ChunkLine → List ℕ → Chunk
chunk_of line bytes = record { line = line; bytes = bytes }

print_one_more : (chunks : List Chunk) (c : Chunk) → print_chunks (chunks ++ c ∷ []) ≡ print_chunks chunks ++ print_chunk c
print_one_more chunks c = flat_map-append print_chunk chunks (c ∷ []) ∙ ap (λ (l : List ℕ). print_chunks chunks ++ l) (append-nil (print_chunk c))

bytes_one_more : (chunks : List Chunk) (c : Chunk) → bytes_of (chunks ++ c ∷ []) ≡ bytes_of chunks ++ c.bytes
bytes_one_more chunks c = flat_map-append (λ (x : Chunk). x.bytes) chunks (c ∷ []) ∙ ap (λ (l : List ℕ). bytes_of chunks ++ l) (append-nil c.bytes)

chunk_joined : (text p l bytes : List ℕ) → text ≡ p ++ (l ++ bytes) → (text ++ 13 ∷ []) ++ 10 ∷ [] ≡ p ++ ((l ++ bytes) ++ crlf_bytes)
chunk_joined text p l bytes e =
    append_assoc text (13 ∷ []) (10 ∷ [])
    ∙ ap (λ (t : List ℕ). t ++ crlf_bytes) e
    ∙ append_assoc p (l ++ bytes) crlf_bytes

chunk_ends : (room b : ℕ) (taken given : List ℕ) → AtDataLf room taken given → b ≡ 10 → Chunks room (taken ++ b ∷ []) given
chunk_ends room b taken given x e =
    let k = x.chunk in
    let c = chunk_of k.line k.bytes in
    let whole : length k.bytes ≡ chunk_size k.line = omega (arith, k.parted) in
    let len : length (bytes_of (k.chunks ++ c ∷ [])) ≡ length (bytes_of k.chunks) + length k.bytes =
    ap (λ (l : List ℕ). length l) (bytes_one_more k.chunks c) ∙ length-append (bytes_of k.chunks) k.bytes in
    record {
      chunks = k.chunks ++ c ∷ [];
      are = record {
        each = All-push IsChunk k.chunks c k.are.each (record { line = k.is_line; some = k.some; size = whole });
        fit = omega (arith, len, whole, k.total);
      };
      total = omega (arith, len, whole, k.total);
      printed = ap₂ (λ (t : List ℕ) (v : ℕ). t ++ v ∷ []) x.joined e
          ∙ chunk_joined x.text (print_chunks k.chunks) (print_chunk_line k.line) k.bytes k.printed
          ∙ sym (print_one_more k.chunks c);
      gives = k.gives ∙ sym (bytes_one_more k.chunks c);
    }

at_data_end : (room b : ℕ) (taken given : List ℕ) → AtDataLf room taken given → Stands room (at_line_feed SizeStart b) (taken ++ b ∷ []) given
at_data_end room b taken given x =
    cond_both (b == 10) SizeStart Bad (λ (p : Place). Stands room p (taken ++ b ∷ []) given)
    (λ lf. chunk_ends room b taken given x (eqb-true b 10 lf))
    (λ other. tt)

-- ---- in the trailer

line_begins : (len b : ℕ) (taken given : List ℕ) → InTrailer len taken given → len < 8188 → is_extension_byte b ≡ true
    → InLine (len + 3) (taken ++ b ∷ []) given []
line_begins len b taken given x less is = record {
  base = len;
  front = taken;
  trailer = x;
  line = b ∷ [];
  is = record { some = omega arith; plain = All-cons (λ v. is_extension_byte v ≡ true) b [] is (All-nil (λ v. is_extension_byte v ≡ true)) };
  count = omega arith;
  fits = omega (arith, less);
  joined = refl;
}

at_trailer_start : (room len b : ℕ) (taken given : List ℕ) → InTrailer len taken given
    → Stands room (trailer_start len b) (taken ++ b ∷ []) given
at_trailer_start room len b taken given x =
    cond_both (b == 13) LastLf _ (λ (p : Place). Stands room p (taken ++ b ∷ []) given)
    (λ cr. record { base = len; front = taken; trailer = x; joined = ap (λ (c : ℕ). taken ++ c ∷ []) (eqb-true b 13 cr) })
    (λ no_cr. cond_both (b == 10) Bad _ (λ (p : Place). Stands room p (taken ++ b ∷ []) given)
    (λ lf. tt)
    (λ no_lf. cond_both (nat_lt len 8188) (TrailerText (len + 3)) Bad (λ (p : Place). Stands room p (taken ++ b ∷ []) given)
    (λ less. line_begins len b taken given x (ltb-true len 8188 less) (not_line_end b no_cr no_lf))
    (λ full. tt)))

line_grows : (len b : ℕ) (taken given : List ℕ) → InLine len taken given [] → len < 8190 → is_extension_byte b ≡ true
    → InLine (len + 1) (taken ++ b ∷ []) given []
line_grows len b taken given x less is = record {
  base = x.base;
  front = x.front;
  trailer = x.trailer;
  line = x.line ++ b ∷ [];
  is = record {
    some = omega (arith, length-append x.line (b ∷ []));
    plain = All-push (λ v. is_extension_byte v ≡ true) x.line b x.is.plain is;
  };
  count = omega (arith, length-append x.line (b ∷ []), x.count);
  fits = omega (arith, less);
  joined = ap (λ (t : List ℕ). t ++ b ∷ []) (x.joined ∙ ap (λ (l : List ℕ). x.front ++ l) (append-nil x.line))
      ∙ append_assoc x.front x.line (b ∷ [])
      ∙ ap (λ (l : List ℕ). x.front ++ l) (sym (append-nil (x.line ++ b ∷ [])));
}

line_ends : (len b : ℕ) (taken given : List ℕ) → InLine len taken given [] → b ≡ 13 → InLine len (taken ++ b ∷ []) given (13 ∷ [])
line_ends len b taken given x e = record {
  base = x.base;
  front = x.front;
  trailer = x.trailer;
  line = x.line;
  is = x.is;
  count = x.count;
  fits = x.fits;
  joined = ap₂ (λ (t : List ℕ) (c : ℕ). t ++ c ∷ []) (x.joined ∙ ap (λ (l : List ℕ). x.front ++ l) (append-nil x.line)) e
      ∙ append_assoc x.front x.line (13 ∷ []);
}

at_trailer_text : (room len b : ℕ) (taken given : List ℕ) → InLine len taken given []
    → Stands room (trailer_text len b) (taken ++ b ∷ []) given
at_trailer_text room len b taken given x =
    cond_both (b == 13) (TrailerLf len) _ (λ (p : Place). Stands room p (taken ++ b ∷ []) given)
    (λ cr. line_ends len b taken given x (eqb-true b 13 cr))
    (λ no_cr. cond_both (b == 10) Bad _ (λ (p : Place). Stands room p (taken ++ b ∷ []) given)
    (λ lf. tt)
    (λ no_lf. cond_both (nat_lt len 8190) (TrailerText (len + 1)) Bad (λ (p : Place). Stands room p (taken ++ b ∷ []) given)
    (λ less. line_grows len b taken given x (ltb-true len 8190 less) (not_line_end b no_cr no_lf))
    (λ full. tt)))

texts_one_more : (lines : List (List ℕ)) (l : List ℕ) → line_texts (lines ++ l ∷ []) ≡ line_texts lines ++ (l ++ crlf_bytes)
texts_one_more lines l =
    flat_map-append (λ (x : List ℕ). x ++ crlf_bytes) lines (l ∷ [])
    ∙ ap (λ (t : List ℕ). line_texts lines ++ t) (append-nil (l ++ crlf_bytes))

line_joined : (front p texts line : List ℕ) → front ≡ p ++ texts → (front ++ (line ++ 13 ∷ [])) ++ 10 ∷ [] ≡ p ++ (texts ++ (line ++ crlf_bytes))
line_joined front p texts line e =
    append_assoc front (line ++ 13 ∷ []) (10 ∷ [])
    ∙ ap₂ (λ (f l : List ℕ). f ++ l) e (append_assoc line (13 ∷ []) (10 ∷ []))
    ∙ append_assoc p texts (line ++ crlf_bytes)

line_added : (len b : ℕ) (taken given : List ℕ) → InLine len taken given (13 ∷ []) → b ≡ 10 → InTrailer len (taken ++ b ∷ []) given
line_added len b taken given x e =
    let t = x.trailer in
    record {
      chunks = t.chunks;
      are = t.are;
      last = t.last;
      is_last = t.is_last;
      lines = t.lines ++ x.line ∷ [];
      each = All-push IsTrailerLine t.lines x.line t.each x.is;
      count = ap (λ (l : List ℕ). length l) (texts_one_more t.lines x.line)
          ∙ length-append (line_texts t.lines) (x.line ++ crlf_bytes)
          ∙ ap₂ (λ (m n : ℕ). m + n) t.count (length-append x.line crlf_bytes)
          ∙ x.count;
      fits = x.fits;
      printed = ap₂ (λ (y : List ℕ) (c : ℕ). y ++ c ∷ []) x.joined e
          ∙ line_joined x.front (print_chunks t.chunks ++ print_chunk_line t.last) (line_texts t.lines) x.line t.printed
          ∙ ap (λ (l : List ℕ). (print_chunks t.chunks ++ print_chunk_line t.last) ++ l) (sym (texts_one_more t.lines x.line));
      gives = t.gives;
    }

at_trailer_end : (room len b : ℕ) (taken given : List ℕ) → InLine len taken given (13 ∷ [])
    → Stands room (at_line_feed (TrailerStart len) b) (taken ++ b ∷ []) given
at_trailer_end room len b taken given x =
    cond_both (b == 10) (TrailerStart len) Bad (λ (p : Place). Stands room p (taken ++ b ∷ []) given)
    (λ lf. line_added len b taken given x (eqb-true b 10 lf))
    (λ other. tt)

end_joined : (front p texts : List ℕ) → front ≡ p ++ texts → (front ++ 13 ∷ []) ++ 10 ∷ [] ≡ p ++ (texts ++ crlf_bytes)
end_joined front p texts e =
    append_assoc front (13 ∷ []) (10 ∷ []) ∙ ap (λ (f : List ℕ). f ++ crlf_bytes) e ∙ append_assoc p texts crlf_bytes

content_ends : (b : ℕ) (taken given : List ℕ) → AtLastLf taken given → b ≡ 10
    → IsContent Chunked (taken ++ b ∷ []) (Contents.Whole given)
content_ends b taken given x e =
    let t = x.trailer in (
      t.chunks,
      record {
        are = t.are;
        last = t.last;
        is_last = t.is_last;
        trailer = t.lines;
        is_trailer = record {
          lines_are = t.each;
          bytes_fit = omega (arith, length-append (line_texts t.lines) crlf_bytes, t.count, t.fits);
        };
        printed = ap₂ (λ (y : List ℕ) (c : ℕ). y ++ c ∷ []) x.joined e
            ∙ end_joined x.front (print_chunks t.chunks ++ print_chunk_line t.last) (line_texts t.lines) t.printed;
      },
      t.gives,
    )

at_last_end : (room b : ℕ) (taken given : List ℕ) → AtLastLf taken given → Stands room (at_line_feed Ended b) (taken ++ b ∷ []) given
at_last_end room b taken given x =
    cond_both (b == 10) Ended Bad (λ (p : Place). Stands room p (taken ++ b ∷ []) given)
    (λ lf. content_ends b taken given x (eqb-true b 10 lf))
    (λ other. tt)

-- ---- every place

-- a byte that is none of the content's own
framed : (room : ℕ) (place : Place) (taken given : List ℕ) → Stands room place taken given → Stands room place taken (given ++ [])
framed room place taken given x = subst (λ (g : List ℕ). Stands room place taken g) (sym (append-nil given)) x

pub stands_on : (room : ℕ) (place : Place) (b : ℕ) (taken given : List ℕ) → goes_on place ≡ true → Stands room place taken given
    → Stands (room_after room place) (place_after room place b) (taken ++ b ∷ []) (given ++ given_at place b)
stands_on room SizeStart b taken given on x = framed room (first_digit b) (taken ++ b ∷ []) given (at_size_start room b taken given x)
stands_on room (Digits len size) b taken given on x = framed room (next_digit len size b) (taken ++ b ∷ []) given (at_digits room len size b taken given x)
stands_on room (Padding len size) b taken given on x = framed room (after_digits len size b) (taken ++ b ∷ []) given (at_padding room len size b taken given x)
stands_on room (Extension len size) b taken given on x = framed room (in_extension len size b) (taken ++ b ∷ []) given (at_extension room len size b taken given x)
stands_on room (SizeLf size) b taken given on x = framed (room - size) (after_size_line room size b) (taken ++ b ∷ []) given (at_size_end room size b taken given x)
stands_on room (Data left) b taken given on x = at_data room left b taken given x
stands_on room DataLf b taken given on x = framed room (at_line_feed SizeStart b) (taken ++ b ∷ []) given (at_data_end room b taken given x)
stands_on room (TrailerStart len) b taken given on x = framed room (trailer_start len b) (taken ++ b ∷ []) given (at_trailer_start room len b taken given x)
stands_on room (TrailerText len) b taken given on x = framed room (trailer_text len b) (taken ++ b ∷ []) given (at_trailer_text room len b taken given x)
stands_on room (TrailerLf len) b taken given on x = framed room (at_line_feed (TrailerStart len) b) (taken ++ b ∷ []) given (at_trailer_end room len b taken given x)
stands_on room LastLf b taken given on x = framed room (at_line_feed Ended b) (taken ++ b ∷ []) given (at_last_end room b taken given x)
stands_on room Ended b taken given on x = absurd (cc)
stands_on room Bad b taken given on x = absurd (cc)
stands_on room TooLong b taken given on x = absurd (cc)
