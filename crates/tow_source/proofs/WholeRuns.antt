-- The steps over a whole content lead to its end.
use Rattle.std.proofs.Common.{◌≡◌, ℕ, ◌+◌, ◌-◌, ◌*◌, ◌<◌, ◌≤◌, min, ◌⊎◌, inl, inr, true, false, Option, Some, None, List, [], ◌∷◌, ◌++◌, length, All, nat_lt, ◌==◌, refl, sym, ap, ap₂, ◌∙◌, subst, arith, append_assoc, length-append}
use Rattle.std.proofs.lemmas.Bool.{cond-true, cond-false, lt-ltb, le-ltb, eq-eqb, ne_eqb}
use Rattle.std.proofs.lemmas.Bool.Decides.{nat_tests}
use Rattle.std.proofs.lemmas.List.Elements.{All-head, All-tail}
use Rattle.std.specs.Char.{is_ascii_hexdigit, digit_value}
use Rattle.std.specs.Str.Parse.{digits_value, digits_value_after}
use Rattle.httparse.specs.Ascii.{crlf_bytes}
use Rattle.httparse.specs.Grammar.{AllPass, ChunkLine, print_chunk_line, print_extension, IsExtension, chunk_size, is_extension_byte, is_ows}
use Rattle.tow_model.specs.declared.content.Content.{Content}
use Rattle.tow_model.specs.declared.content.Content.TheVariants as Contents
use Rattle.tow_model.specs.declared.request.Framing.TheVariants.{Chunked}
use Rattle.tow_model.specs.declared.limits.TheConstants.{MAX_CONTENT_LEN}
use Rattle.tow_message.specs.Contents.{IsSizeLine, Chunk, IsChunk, print_chunk, IsTrailerLine, IsTrailer, print_trailer, print_chunks, bytes_of, IsChunked, IsTooMuch, IsContent}
use Rattle.tow_source.specs.declared.place.Place.{Place}
use Rattle.tow_source.specs.declared.place.Place.TheVariants.{SizeStart, Digits, Padding, Extension, SizeLf, Data, TrailerStart, TrailerText, Ended, TooLong}
use Rattle.tow_source.specs.declared.chunked.ChunkedSource.{ChunkedSource}
use Rattle.tow_source.specs.Places.{grown_size, after_digits, next_digit, in_extension, after_size_line, after_data, trailer_start, trailer_text}
use Rattle.tow_source.specs.ChunkedReading.{at_start, step_of, Runs, given_by}
use Rattle.tow_source.proofs.Runs.{runs_append}
use Rattle.tow_source.proofs.Standing.{SameSize, line_texts}
use Rattle.tow_source.proofs.SizeSteps.{grown_same}

abbrev pub at : ℕ → Place → ChunkedSource
at room place = record { place = place; room = room }

-- a first step to a known place, and a run from there
pub first_then : (s : ChunkedSource) (room : ℕ) (next : Place) (e : ChunkedSource) (b : ℕ) (bytes : List ℕ) → (step_of s b).place ≡ next → (step_of s b).room ≡ room
    → Runs (at room next) bytes e → Runs (step_of s b) bytes e
first_then s room next e b bytes place same runs =
    subst (λ (x : ChunkedSource). Runs x bytes e) (ap₂ at (sym same) (sym place)) runs

-- ---- data

data_step : (left b : ℕ) → 0 < left → after_data left b ≡ Data (left - 1)
data_step left b some = cond-false (left == 0) _ _ (ne_eqb left 0 (λ e. omega (arith, e, some)))

pub runs_data : (room left : ℕ) (bytes : List ℕ) → length bytes ≤ left → Runs (at room (Data left)) bytes (at room (Data (left - length bytes)))
runs_data room left [] fits = ap (λ (n : ℕ). at room (Data n)) (omega arith)
runs_data room left (b ∷ bytes) fits =
    let rest = runs_data room (left - 1) bytes (omega (arith, fits)) in
    let same : (left - 1) - length bytes ≡ left - length (b ∷ bytes) = omega (arith, fits) in (
      refl,
      first_then (at room (Data left)) room (Data (left - 1)) (at room (Data (left - length (b ∷ bytes)))) b bytes (data_step left b (omega (arith, fits))) refl
          (subst (λ (n : ℕ). Runs (at room (Data (left - 1))) bytes (at room (Data n))) same rest),
    )

pub given_data : (room left : ℕ) (bytes : List ℕ) → length bytes ≤ left → given_by (at room (Data left)) bytes ≡ bytes
given_data room left [] fits = refl
given_data room left (b ∷ bytes) fits =
    let some : 0 < left = omega (arith, fits) in
    ap₂ (λ (l : List ℕ) (p : Place). l ++ given_by (at room p) bytes)
    (cond-false (left == 0) [] (b ∷ []) (ne_eqb left 0 (λ e. omega (arith, e, some)))) (data_step left b some)
    ∙ ap (λ (l : List ℕ). b ∷ l) (given_data room (left - 1) bytes (omega (arith, fits)))

-- ---- the line of a size

digit_step : (room len size b : ℕ) → is_ascii_hexdigit b ≡ true → len < 15 → next_digit len size b ≡ Digits (len + 1) (grown_size size (digit_value b))
digit_step room len size b hex few = cond-true (is_ascii_hexdigit b) _ _ hex ∙ cond-true (nat_lt len 15) _ _ (lt-ltb len 15 few)

runs_digits : (room len size value : ℕ) (digits : List ℕ) → SameSize size value → AllPass is_ascii_hexdigit digits → len + length digits ≤ 15
    → (last : ℕ) × SameSize last (digits_value_after 16 value digits) × Runs (at room (Digits len size)) digits (at room (Digits (len + length digits) last))
runs_digits room len size value [] same all few = (size, same, ap (λ (n : ℕ). at room (Digits n size)) (omega arith))
runs_digits room len size value (d ∷ digits) same all few =
    let hex : is_ascii_hexdigit d ≡ true = All-head (λ v. is_ascii_hexdigit v ≡ true) d digits all in
    let next = grown_size size (digit_value d) in
    let rest = runs_digits room (len + 1) next (value * 16 + digit_value d) digits (grown_same size value (digit_value d) same)
    (All-tail (λ v. is_ascii_hexdigit v ≡ true) d digits all) (omega (arith, few)) in
    let counts : (len + 1) + length digits ≡ len + length (d ∷ digits) = omega arith in (
      rest.0,
      rest.1,
      (
        refl,
        first_then (at room (Digits len size)) room (Digits (len + 1) next) (at room (Digits (len + length (d ∷ digits)) rest.0)) d digits
            (digit_step room len size d hex (omega (arith, few))) refl
            (subst (λ (n : ℕ). Runs (at room (Digits (len + 1) next)) digits (at room (Digits n rest.0))) counts rest.2),
      ),
    )

all_digits : (room : ℕ) (digits : List ℕ) → 0 < length digits → length digits ≤ 15 → AllPass is_ascii_hexdigit digits
    → (last : ℕ) × SameSize last (digits_value 16 digits) × Runs (at room SizeStart) digits (at room (Digits (length digits) last))
all_digits room [] some few all = absurd (omega (arith, some))
all_digits room (d ∷ digits) some few all =
    let hex : is_ascii_hexdigit d ≡ true = All-head (λ v. is_ascii_hexdigit v ≡ true) d digits all in
    let value = 0 * 16 + digit_value d in
    let same : SameSize (digit_value d) value = ap (λ (n : ℕ). min n (MAX_CONTENT_LEN + 1)) (omega arith) in
    let rest = runs_digits room 1 (digit_value d) value digits same (All-tail (λ v. is_ascii_hexdigit v ≡ true) d digits all) (omega (arith, few)) in
    let counts : 1 + length digits ≡ length (d ∷ digits) = omega arith in (
      rest.0,
      rest.1,
      (
        refl,
        first_then (at room SizeStart) room (Digits 1 (digit_value d)) (at room (Digits (length (d ∷ digits)) rest.0)) d digits
            (cond-true (is_ascii_hexdigit d) _ _ hex) refl
            (subst (λ (n : ℕ). Runs (at room (Digits 1 (digit_value d))) digits (at room (Digits n rest.0))) counts rest.2),
      ),
    )

ows_no_digit : (b : ℕ) → is_ows b ≡ true → is_ascii_hexdigit b ≡ false
ows_no_digit b ows = grind (arith, nat_tests)

ows_no_cr : (b : ℕ) → is_ows b ≡ true → (b == 13) ≡ false
ows_no_cr b ows = grind (arith, nat_tests)

ows_no_semicolon : (b : ℕ) → is_ows b ≡ true → (b == 59) ≡ false
ows_no_semicolon b ows = grind (arith, nat_tests)

plain_no_cr : (b : ℕ) → is_extension_byte b ≡ true → (b == 13) ≡ false
plain_no_cr b plain = grind (arith, nat_tests)

plain_no_lf : (b : ℕ) → is_extension_byte b ≡ true → (b == 10) ≡ false
plain_no_lf b plain = grind (arith, nat_tests)

blank_step : (len size b : ℕ) → is_ows b ≡ true → len < 254 → after_digits len size b ≡ Padding (len + 1) size
blank_step len size b ows less =
    cond-false (b == 13) _ _ (ows_no_cr b ows)
    ∙ cond-true (nat_lt len 254) _ _ (lt-ltb len 254 less)
    ∙ cond-false (b == 59) _ _ (ows_no_semicolon b ows)
    ∙ cond-true (is_ows b) _ _ ows

runs_pad : (room len size : ℕ) (pad : List ℕ) → AllPass is_ows pad → len + length pad ≤ 254
    → Runs (at room (Padding len size)) pad (at room (Padding (len + length pad) size))
runs_pad room len size [] all fits = ap (λ (n : ℕ). at room (Padding n size)) (omega arith)
runs_pad room len size (b ∷ pad) all fits =
    let ows : is_ows b ≡ true = All-head (λ v. is_ows v ≡ true) b pad all in
    let rest = runs_pad room (len + 1) size pad (All-tail (λ v. is_ows v ≡ true) b pad all) (omega (arith, fits)) in
    let counts : (len + 1) + length pad ≡ len + length (b ∷ pad) = omega arith in (
      refl,
      first_then (at room (Padding len size)) room (Padding (len + 1) size) (at room (Padding (len + length (b ∷ pad)) size)) b pad
          (blank_step len size b ows (omega (arith, fits))) refl
          (subst (λ (n : ℕ). Runs (at room (Padding (len + 1) size)) pad (at room (Padding n size))) counts rest),
    )

text_step : (len size b : ℕ) → is_extension_byte b ≡ true → len < 254 → in_extension len size b ≡ Extension (len + 1) size
text_step len size b plain less =
    cond-false (b == 13) _ _ (plain_no_cr b plain)
    ∙ cond-false (b == 10) _ _ (plain_no_lf b plain)
    ∙ cond-true (nat_lt len 254) _ _ (lt-ltb len 254 less)

runs_text : (room len size : ℕ) (text : List ℕ) → AllPass is_extension_byte text → len + length text ≤ 254
    → Runs (at room (Extension len size)) text (at room (Extension (len + length text) size))
runs_text room len size [] all fits = ap (λ (n : ℕ). at room (Extension n size)) (omega arith)
runs_text room len size (b ∷ text) all fits =
    let plain : is_extension_byte b ≡ true = All-head (λ v. is_extension_byte v ≡ true) b text all in
    let rest = runs_text room (len + 1) size text (All-tail (λ v. is_extension_byte v ≡ true) b text all) (omega (arith, fits)) in
    let counts : (len + 1) + length text ≡ len + length (b ∷ text) = omega arith in (
      refl,
      first_then (at room (Extension len size)) room (Extension (len + 1) size) (at room (Extension (len + length (b ∷ text)) size)) b text
          (text_step len size b plain (omega (arith, fits))) refl
          (subst (λ (n : ℕ). Runs (at room (Extension (len + 1) size)) text (at room (Extension n size))) counts rest),
    )

-- what follows the blanks, up to the CR
abbrev ending_of : Option (List ℕ) → List ℕ
ending_of extension = print_extension extension ++ 13 ∷ []

runs_ending : (room len size : ℕ) (extension : Option (List ℕ)) → IsExtension extension → len + length (print_extension extension) ≤ 254
    → Runs (at room (Padding len size)) (ending_of extension) (at room (SizeLf size))
runs_ending room len size None is fits = (refl, refl)
runs_ending room len size (Some text) is fits =
    let less : len < 254 = omega (arith, fits) in (
      refl,
      first_then (at room (Padding len size)) room (Extension (len + 1) size) (at room (SizeLf size)) 59 (text ++ 13 ∷ [])
          (cond-true (nat_lt len 254) _ _ (lt-ltb len 254 less)) refl
          (runs_append (at room (Extension (len + 1) size)) (at room (Extension ((len + 1) + length text) size)) (at room (SizeLf size)) text (13 ∷ [])
          (runs_text room (len + 1) size text is (omega (arith, fits))) (refl, refl)),
    )

as_padding : (room len size b : ℕ) (bytes : List ℕ) (e : ChunkedSource) → is_ascii_hexdigit b ≡ false → Runs (at room (Padding len size)) (b ∷ bytes) e
    → Runs (at room (Digits len size)) (b ∷ bytes) e
as_padding room len size b bytes e other runs = (
  refl,
  first_then (at room (Digits len size)) room (after_digits len size b) e b bytes (cond-false (is_ascii_hexdigit b) _ _ other) refl runs.1,
)

runs_tail : (room len size : ℕ) (pad : List ℕ) (extension : Option (List ℕ)) → AllPass is_ows pad → IsExtension extension
    → (len + length pad) + length (print_extension extension) ≤ 254
    → Runs (at room (Digits len size)) (pad ++ ending_of extension) (at room (SizeLf size))
runs_tail room len size [] None all is fits = as_padding room len size 13 [] (at room (SizeLf size)) refl (runs_ending room len size None is (omega (arith, fits)))
runs_tail room len size [] (Some text) all is fits =
    as_padding room len size 59 (text ++ 13 ∷ []) (at room (SizeLf size)) refl (runs_ending room len size (Some text) is (omega (arith, fits)))
runs_tail room len size (b ∷ pad) extension all is fits =
    as_padding room len size b (pad ++ ending_of extension) (at room (SizeLf size)) (ows_no_digit b (All-head (λ v. is_ows v ≡ true) b pad all))
    (runs_append (at room (Padding len size)) (at room (Padding (len + length (b ∷ pad)) size)) (at room (SizeLf size)) (b ∷ pad) (ending_of extension)
    (runs_pad room len size (b ∷ pad) all (omega (arith, fits)))
    (runs_ending room (len + length (b ∷ pad)) size extension is fits))

-- a size line without its LF
abbrev front_of : ChunkLine → List ℕ
front_of l = l.digits ++ (l.pad ++ ending_of l.extension)

line_split : (l : ChunkLine) → print_chunk_line l ≡ front_of l ++ 10 ∷ []
unfolding print_chunk_line
line_split l = simp append_assoc

line_length : (l : ChunkLine) → length (print_chunk_line l) ≡ ((length l.digits + length l.pad) + length (print_extension l.extension)) + 2
unfolding print_chunk_line
line_length l = simp length-append

runs_front : (room : ℕ) (l : ChunkLine) → IsSizeLine l → (size : ℕ) × SameSize size (chunk_size l) × Runs (at room SizeStart) (front_of l) (at room (SizeLf size))
runs_front room l is =
    let digits = all_digits room l.digits is.line.digits.0 is.digits_fit is.line.digits.2 in
    let fits : (length l.digits + length l.pad) + length (print_extension l.extension) ≤ 254 = omega (arith, is.bytes_fit, line_length l) in (
      digits.0,
      digits.1,
      runs_append (at room SizeStart) (at room (Digits (length l.digits) digits.0)) (at room (SizeLf digits.0)) l.digits (l.pad ++ ending_of l.extension)
          digits.2 (runs_tail room (length l.digits) digits.0 l.pad l.extension is.line.pad is.line.extension fits),
    )

-- with its LF, where that leads to the place
runs_line_to : (room size : ℕ) (next : Place) (l : ChunkLine) → Runs (at room SizeStart) (front_of l) (at room (SizeLf size))
    → after_size_line room size 10 ≡ next → Runs (at room SizeStart) (print_chunk_line l) (at (room - size) next)
runs_line_to room size next l runs e =
    subst (λ (t : List ℕ). Runs (at room SizeStart) t (at (room - size) next)) (sym (line_split l))
    (runs_append (at room SizeStart) (at room (SizeLf size)) (at (room - size) next) (front_of l) (10 ∷ []) runs
    (refl, ap (λ (p : Place). at (room - size) p) e))

pub to_data : (room size : ℕ) → size ≤ room → 0 < size → after_size_line room size 10 ≡ Data size
to_data room size fits some =
    cond-false (nat_lt room size) _ _ (le-ltb room size fits) ∙ cond-false (size == 0) _ _ (ne_eqb size 0 (λ e. omega (arith, e, some)))

pub to_trailer : (room size : ℕ) → size ≡ 0 → after_size_line room size 10 ≡ TrailerStart 0
to_trailer room size none =
    cond-false (nat_lt room size) _ _ (le-ltb room size (omega (arith, none))) ∙ cond-true (size == 0) _ _ (eq-eqb size 0 none)

pub to_too_long : (room size : ℕ) → room < size → after_size_line room size 10 ≡ TooLong
to_too_long room size over = cond-true (nat_lt room size) _ _ (lt-ltb room size over)

-- ---- chunks

runs_chunk : (room : ℕ) (c : Chunk) → IsChunk c → length c.bytes ≤ room → room ≤ MAX_CONTENT_LEN
    → Runs (at room SizeStart) (print_chunk c) (at (room - length c.bytes) SizeStart)
runs_chunk room c is fits bound =
    let front = runs_front room c.line is.line in
    let same : front.0 ≡ length c.bytes = omega (arith, front.1, is.size, fits, bound) in
    let some : 0 < front.0 = omega (arith, same, is.size, is.some) in
    let line : Runs (at room SizeStart) (print_chunk_line c.line) (at (room - length c.bytes) (Data (length c.bytes))) =
    subst (λ (n : ℕ). Runs (at room SizeStart) (print_chunk_line c.line) (at (room - n) (Data n))) same
    (runs_line_to room front.0 (Data front.0) c.line front.2 (to_data room front.0 (omega (arith, same, fits)) some)) in
    let left = room - length c.bytes in
    let none : length c.bytes - length c.bytes ≡ 0 = omega arith in
    let moved : Runs (at left (Data (length c.bytes))) c.bytes (at left (Data 0)) =
    subst (λ (n : ℕ). Runs (at left (Data (length c.bytes))) c.bytes (at left (Data n))) none (runs_data left (length c.bytes) c.bytes (omega arith)) in
    runs_append (at room SizeStart) (at left (Data 0)) (at left SizeStart) (print_chunk_line c.line ++ c.bytes) crlf_bytes
    (runs_append (at room SizeStart) (at left (Data (length c.bytes))) (at left (Data 0)) (print_chunk_line c.line) c.bytes line moved)
    (refl, (refl, refl))

runs_chunks : (room : ℕ) (chunks : List Chunk) → All IsChunk chunks → length (bytes_of chunks) ≤ room → room ≤ MAX_CONTENT_LEN
    → Runs (at room SizeStart) (print_chunks chunks) (at (room - length (bytes_of chunks)) SizeStart)
runs_chunks room [] all fits bound = ap (λ (n : ℕ). at n SizeStart) (omega arith)
runs_chunks room (c ∷ chunks) all fits bound =
    let len : length (bytes_of (c ∷ chunks)) ≡ length c.bytes + length (bytes_of chunks) = length-append c.bytes (bytes_of chunks) in
    let one = runs_chunk room c (All-head IsChunk c chunks all) (omega (arith, fits, len)) bound in
    let left = room - length c.bytes in
    let rest = runs_chunks left chunks (All-tail IsChunk c chunks all) (omega (arith, fits, len)) (omega (arith, bound)) in
    let same : left - length (bytes_of chunks) ≡ room - length (bytes_of (c ∷ chunks)) = omega (arith, fits, len) in
    runs_append (at room SizeStart) (at left SizeStart) (at (room - length (bytes_of (c ∷ chunks))) SizeStart) (print_chunk c) (print_chunks chunks)
    one (subst (λ (n : ℕ). Runs (at left SizeStart) (print_chunks chunks) (at n SizeStart)) same rest)

-- ---- the trailer

trailer_step : (len b : ℕ) → is_extension_byte b ≡ true → len < 8190 → trailer_text len b ≡ TrailerText (len + 1)
trailer_step len b plain less =
    cond-false (b == 13) _ _ (plain_no_cr b plain)
    ∙ cond-false (b == 10) _ _ (plain_no_lf b plain)
    ∙ cond-true (nat_lt len 8190) _ _ (lt-ltb len 8190 less)

trailer_first : (len b : ℕ) → is_extension_byte b ≡ true → len < 8188 → trailer_start len b ≡ TrailerText (len + 3)
trailer_first len b plain less =
    cond-false (b == 13) _ _ (plain_no_cr b plain)
    ∙ cond-false (b == 10) _ _ (plain_no_lf b plain)
    ∙ cond-true (nat_lt len 8188) _ _ (lt-ltb len 8188 less)

runs_trailer_text : (room len : ℕ) (text : List ℕ) → AllPass is_extension_byte text → len + length text ≤ 8190
    → Runs (at room (TrailerText len)) text (at room (TrailerText (len + length text)))
runs_trailer_text room len [] all fits = ap (λ (n : ℕ). at room (TrailerText n)) (omega arith)
runs_trailer_text room len (b ∷ text) all fits =
    let plain : is_extension_byte b ≡ true = All-head (λ v. is_extension_byte v ≡ true) b text all in
    let rest = runs_trailer_text room (len + 1) text (All-tail (λ v. is_extension_byte v ≡ true) b text all) (omega (arith, fits)) in
    let counts : (len + 1) + length text ≡ len + length (b ∷ text) = omega arith in (
      refl,
      first_then (at room (TrailerText len)) room (TrailerText (len + 1)) (at room (TrailerText (len + length (b ∷ text)))) b text
          (trailer_step len b plain (omega (arith, fits))) refl
          (subst (λ (n : ℕ). Runs (at room (TrailerText (len + 1))) text (at room (TrailerText n))) counts rest),
    )

runs_trailer_line : (room len : ℕ) (line : List ℕ) → IsTrailerLine line → len + length (line ++ crlf_bytes) ≤ 8190
    → Runs (at room (TrailerStart len)) (line ++ crlf_bytes) (at room (TrailerStart (len + length (line ++ crlf_bytes))))
runs_trailer_line room len [] is fits = absurd (omega (arith, is.some))
runs_trailer_line room len (b ∷ line) is fits =
    let size : length ((b ∷ line) ++ crlf_bytes) ≡ length line + 3 = omega (arith, length-append line crlf_bytes) in
    let plain : is_extension_byte b ≡ true = All-head (λ v. is_extension_byte v ≡ true) b line is.plain in
    let end = at room (TrailerStart (len + length ((b ∷ line) ++ crlf_bytes))) in
    let counts : (len + 3) + length line ≡ len + length ((b ∷ line) ++ crlf_bytes) = omega (arith, size) in
    let text = runs_trailer_text room (len + 3) line (All-tail (λ v. is_extension_byte v ≡ true) b line is.plain) (omega (arith, fits, size)) in
    let text' = subst (λ (n : ℕ). Runs (at room (TrailerText (len + 3))) line (at room (TrailerText n))) counts text in (
      refl,
      first_then (at room (TrailerStart len)) room (TrailerText (len + 3)) end b (line ++ crlf_bytes)
          (trailer_first len b plain (omega (arith, fits, size))) refl
          (runs_append (at room (TrailerText (len + 3))) (at room (TrailerText (len + length ((b ∷ line) ++ crlf_bytes)))) end line crlf_bytes
          text' (refl, (refl, refl))),
    )

runs_trailer_lines : (room len : ℕ) (lines : List (List ℕ)) → All IsTrailerLine lines → len + length (line_texts lines) ≤ 8190
    → Runs (at room (TrailerStart len)) (line_texts lines) (at room (TrailerStart (len + length (line_texts lines))))
runs_trailer_lines room len [] all fits = ap (λ (n : ℕ). at room (TrailerStart n)) (omega arith)
runs_trailer_lines room len (l ∷ lines) all fits =
    let size : length (line_texts (l ∷ lines)) ≡ length (l ++ crlf_bytes) + length (line_texts lines) = length-append (l ++ crlf_bytes) (line_texts lines) in
    let one = runs_trailer_line room len l (All-head IsTrailerLine l lines all) (omega (arith, fits, size)) in
    let next = len + length (l ++ crlf_bytes) in
    let rest = runs_trailer_lines room next lines (All-tail IsTrailerLine l lines all) (omega (arith, fits, size)) in
    let same : next + length (line_texts lines) ≡ len + length (line_texts (l ∷ lines)) = omega (arith, size) in
    runs_append (at room (TrailerStart len)) (at room (TrailerStart next)) (at room (TrailerStart (len + length (line_texts (l ∷ lines))))) (l ++ crlf_bytes) (line_texts lines)
    one (subst (λ (n : ℕ). Runs (at room (TrailerStart next)) (line_texts lines) (at room (TrailerStart n))) same rest)

runs_trailer : (room : ℕ) (lines : List (List ℕ)) → IsTrailer lines → Runs (at room (TrailerStart 0)) (print_trailer lines) (at room Ended)
runs_trailer room lines is =
    let fits : 0 + length (line_texts lines) ≤ 8190 = omega (arith, is.bytes_fit, length-append (line_texts lines) crlf_bytes) in
    runs_append (at room (TrailerStart 0)) (at room (TrailerStart (0 + length (line_texts lines)))) (at room Ended) (line_texts lines) crlf_bytes
    (runs_trailer_lines room 0 lines is.lines_are fits) (refl, (refl, refl))

-- ---- contents

abbrev pub IsEnd : Place → Type 0
IsEnd place = (place ≡ Ended) ⊎ (place ≡ TooLong)

pub record RunsToEnd (text : List ℕ) : Type 0 where
  pub end : ChunkedSource
  pub runs : Runs at_start text end
  pub over : IsEnd end.place

whole_runs : (text : List ℕ) (chunks : List Chunk) → IsChunked text chunks → RunsToEnd text
whole_runs text chunks is =
    let room = MAX_CONTENT_LEN - length (bytes_of chunks) in
    let front = runs_chunks MAX_CONTENT_LEN chunks is.are.each is.are.fit (omega arith) in
    let line = runs_front room is.last is.is_last.line in
    let none : line.0 ≡ 0 = omega (arith, line.1, is.is_last.size) in
    let last = runs_line_to room line.0 (TrailerStart 0) is.last line.2 (to_trailer room line.0 none) in
    let left = room - line.0 in
    let trailer = runs_trailer left is.trailer is.is_trailer in
    record {
      end = at left Ended;
      runs = subst (λ (t : List ℕ). Runs at_start t (at left Ended)) (sym is.printed)
          (runs_append at_start (at left (TrailerStart 0)) (at left Ended) (print_chunks chunks ++ print_chunk_line is.last) (print_trailer is.trailer)
          (runs_append at_start (at room SizeStart) (at left (TrailerStart 0)) (print_chunks chunks) (print_chunk_line is.last) front last)
          trailer);
      over = inl refl;
    }

over_runs : (text : List ℕ) (chunks : List Chunk) → IsTooMuch text chunks → RunsToEnd text
over_runs text chunks is =
    let room = MAX_CONTENT_LEN - length (bytes_of chunks) in
    let front = runs_chunks MAX_CONTENT_LEN chunks is.are.each is.are.fit (omega arith) in
    let line = runs_front room is.line is.is_line in
    let over : room < line.0 = omega (arith, line.1, is.over, is.are.fit) in
    let last = runs_line_to room line.0 TooLong is.line line.2 (to_too_long room line.0 over) in
    record {
      end = at (room - line.0) TooLong;
      runs = subst (λ (t : List ℕ). Runs at_start t (at (room - line.0) TooLong)) (sym is.printed)
          (runs_append at_start (at room SizeStart) (at (room - line.0) TooLong) (print_chunks chunks) (print_chunk_line is.line) front last);
      over = inr refl;
    }

pub content_runs : (text : List ℕ) (given : Content) → IsContent Chunked text given → RunsToEnd text
content_runs text (Contents.Whole bytes) is = whole_runs text is.0 is.1
content_runs text Contents.TooLong is = over_runs text is.0 is.1
content_runs text Contents.Bad is = absurd is
