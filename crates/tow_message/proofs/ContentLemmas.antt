-- An input begins with at most one content.
use Rattle.std.proofs.Common.{◌≡◌, ℕ, ◌+◌, ◌<◌, ◌≤◌, ◌⊎◌, inl, inr, true, List, [], ◌∷◌, ◌++◌, length, All, flat_map, refl, sym, ap, ap₂, ◌∙◌, subst, arith, append_assoc, length-append, take, take_at}
use Rattle.std.proofs.lemmas.List.{append_cancel_left}
use Rattle.std.proofs.lemmas.List.Elements.{All-head, All-tail}
use Rattle.httparse.specs.Ascii.{crlf_bytes}
use Rattle.httparse.specs.Grammar.{AllPass, ChunkLine, print_chunk_line, chunk_size, is_extension_byte}
use Rattle.httparse.proofs.ChunkLemmas.{chunk_line_unique}
use Rattle.tow_model.specs.declared.request.Framing.{Framing}
use Rattle.tow_model.specs.declared.request.Framing.TheVariants.{Empty, Fixed, Chunked}
use Rattle.tow_model.specs.declared.content.Content.{Content}
use Rattle.tow_model.specs.declared.content.Content.TheVariants.{Whole, Bad, TooLong}
use Rattle.tow_model.specs.declared.limits.TheConstants.{MAX_CONTENT_LEN}
use Rattle.tow_message.specs.Contents.{IsSizeLine, Chunk, IsChunk, print_chunk, IsTrailerLine, print_trailer, print_chunks, bytes_of, AreChunks, IsChunked, IsTooMuch, IsContent, ContentIsOne}

-- ---- lists

first_of : List ℕ → ℕ → ℕ
first_of [] d = d
first_of (x ∷ xs) d = x

rest_of : List ℕ → List ℕ
rest_of [] = []
rest_of (x ∷ xs) = xs

same_first : (x y : ℕ) (xs ys : List ℕ) → x ∷ xs ≡ y ∷ ys → x ≡ y
unfolding first_of
same_first x y xs ys e = ap (λ (l : List ℕ). first_of l 0) e

same_rest : (x y : ℕ) (xs ys : List ℕ) → x ∷ xs ≡ y ∷ ys → xs ≡ ys
unfolding rest_of
same_rest x y xs ys e = ap rest_of e

-- fronts of one length are the same
pub same_front : (a b s t : List ℕ) → length a ≡ length b → a ++ s ≡ b ++ t → (a ≡ b) × (s ≡ t)
same_front a b s t len e =
    let front : a ≡ b = sym (take_at a s (length a) refl) ∙ ap (take (length a)) e ∙ take_at b t (length a) (sym len) in
    (front, append_cancel_left b s t (ap (λ x. x ++ s) (sym front) ∙ e))

-- ---- chunks

-- the line ends the chunks of so many bytes: it is the last chunk's, or it is too much
abbrev Stops : ℕ → ChunkLine → Type 0
Stops sum l = (chunk_size l ≡ 0) ⊎ (MAX_CONTENT_LEN < sum + chunk_size l)

-- the line of a chunk does not
chunk_goes_on : (base size sum more : ℕ) (l : ChunkLine) → base + sum ≤ MAX_CONTENT_LEN → sum ≡ size + more → 0 < size → chunk_size l ≡ size
    → Stops (base + 0) l → ⊥
chunk_goes_on base size sum more l fits is some same (inl none) = omega (arith, fits, is, some, same, none)
chunk_goes_on base size sum more l fits is some same (inr over) = omega (arith, fits, is, some, same, over)

chunk_split : (d : Chunk) (r z : List ℕ)
    → (print_chunk d ++ r) ++ z ≡ print_chunk_line d.line ++ (d.bytes ++ (crlf_bytes ++ (r ++ z)))
chunk_split d r z =
    append_assoc (print_chunk d) r z
    ∙ append_assoc (print_chunk_line d.line ++ d.bytes) crlf_bytes (r ++ z)
    ∙ append_assoc (print_chunk_line d.line) d.bytes (crlf_bytes ++ (r ++ z))

one_line : (l m : ChunkLine) (t u : List ℕ) → IsSizeLine l → IsSizeLine m → print_chunk_line l ++ t ≡ print_chunk_line m ++ u
    → (l ≡ m) × (t ≡ u)
one_line l m t u is_l is_m e = chunk_line_unique (print_chunk_line l ++ t) l m t u (is_l.line, refl) (is_m.line, e)

abbrev chunk : ChunkLine → List ℕ → Chunk
chunk line bytes = record { line = line; bytes = bytes }

same_chunk : (c d : Chunk) → c.line ≡ d.line → c.bytes ≡ d.bytes → c ≡ d
same_chunk c d l b = ap₂ chunk l b

-- chunks, a line that stops them, and what follows: there is one way to read them
chunks_one : (base : ℕ) (cs ds : List Chunk) (l m : ChunkLine) (t u : List ℕ) → All IsChunk cs → All IsChunk ds
    → base + length (bytes_of cs) ≤ MAX_CONTENT_LEN → base + length (bytes_of ds) ≤ MAX_CONTENT_LEN → IsSizeLine l → IsSizeLine m
    → Stops (base + length (bytes_of cs)) l → Stops (base + length (bytes_of ds)) m
    → print_chunks cs ++ (print_chunk_line l ++ t) ≡ print_chunks ds ++ (print_chunk_line m ++ u)
    → (cs ≡ ds) × (l ≡ m) × (t ≡ u)
chunks_one base [] [] l m t u all_c all_d fit_c fit_d is_l is_m stop_l stop_m e =
    let same = one_line l m t u is_l is_m e in (refl, same.0, same.1)
chunks_one base [] (d ∷ ds) l m t u all_c all_d fit_c fit_d is_l is_m stop_l stop_m e =
    let is = All-head IsChunk d ds all_d in
    let same = one_line l d.line t _ is_l is.line (e ∙ chunk_split d (print_chunks ds) (print_chunk_line m ++ u)) in
    let size : chunk_size l ≡ length d.bytes = ap chunk_size same.0 ∙ sym is.size in
    let some : 0 < length d.bytes = subst (λ (n : ℕ). 0 < n) (sym is.size) is.some in
    absurd (chunk_goes_on base (length d.bytes) _ _ l fit_d (length-append d.bytes (bytes_of ds)) some size stop_l)
chunks_one base (c ∷ cs) [] l m t u all_c all_d fit_c fit_d is_l is_m stop_l stop_m e =
    let is = All-head IsChunk c cs all_c in
    let same = one_line m c.line u _ is_m is.line (sym e ∙ chunk_split c (print_chunks cs) (print_chunk_line l ++ t)) in
    let size : chunk_size m ≡ length c.bytes = ap chunk_size same.0 ∙ sym is.size in
    let some : 0 < length c.bytes = subst (λ (n : ℕ). 0 < n) (sym is.size) is.some in
    absurd (chunk_goes_on base (length c.bytes) _ _ m fit_c (length-append c.bytes (bytes_of cs)) some size stop_m)
chunks_one base (c ∷ cs) (d ∷ ds) l m t u all_c all_d fit_c fit_d is_l is_m stop_l stop_m e =
    let chunk_c = All-head IsChunk c cs all_c in
    let chunk_d = All-head IsChunk d ds all_d in
    let lines = one_line c.line d.line _ _ chunk_c.line chunk_d.line
    (sym (chunk_split c (print_chunks cs) (print_chunk_line l ++ t)) ∙ e ∙ chunk_split d (print_chunks ds) (print_chunk_line m ++ u)) in
    let len : length c.bytes ≡ length d.bytes = chunk_c.size ∙ ap chunk_size lines.0 ∙ sym chunk_d.size in
    let bytes = same_front c.bytes d.bytes _ _ len lines.1 in
    let rest = append_cancel_left crlf_bytes _ _ bytes.1 in
    let n_c : base + length (c.bytes ++ bytes_of cs) ≡ (base + length c.bytes) + length (bytes_of cs) = omega (arith, length-append c.bytes (bytes_of cs)) in
    let n_d : base + length (d.bytes ++ bytes_of ds) ≡ (base + length c.bytes) + length (bytes_of ds) = omega (arith, length-append d.bytes (bytes_of ds), len) in
    let later = chunks_one (base + length c.bytes) cs ds l m t u (All-tail IsChunk c cs all_c) (All-tail IsChunk d ds all_d)
    (subst (λ (n : ℕ). n ≤ MAX_CONTENT_LEN) n_c fit_c) (subst (λ (n : ℕ). n ≤ MAX_CONTENT_LEN) n_d fit_d) is_l is_m
    (subst (λ (n : ℕ). Stops n l) n_c stop_l) (subst (λ (n : ℕ). Stops n m) n_d stop_m) rest in
    (ap (λ (x : Chunk). x ∷ cs) (same_chunk c d lines.0 bytes.0) ∙ ap (λ (xs : List Chunk). d ∷ xs) later.0, later.1, later.2)

-- ---- trailer lines

-- two texts without CR, each with CR and more behind it
one_text : (x y a b : List ℕ) → AllPass is_extension_byte x → AllPass is_extension_byte y → x ++ 13 ∷ a ≡ y ++ 13 ∷ b → (x ≡ y) × (a ≡ b)
one_text [] [] a b all_x all_y e = (refl, same_rest 13 13 a b e)
one_text [] (c ∷ y) a b all_x all_y e =
    let plain : is_extension_byte 13 ≡ true = subst (λ (n : ℕ). is_extension_byte n ≡ true) (sym (same_first 13 c _ _ e)) (All-head (λ v. is_extension_byte v ≡ true) c y all_y) in
    absurd (cc)
one_text (c ∷ x) [] a b all_x all_y e =
    let plain : is_extension_byte 13 ≡ true = subst (λ (n : ℕ). is_extension_byte n ≡ true) (same_first c 13 _ _ e) (All-head (λ v. is_extension_byte v ≡ true) c x all_x) in
    absurd (cc)
one_text (c ∷ x) (d ∷ y) a b all_x all_y e =
    let later = one_text x y a b (All-tail (λ v. is_extension_byte v ≡ true) c x all_x) (All-tail (λ v. is_extension_byte v ≡ true) d y all_y) (same_rest c d _ _ e) in
    (ap (λ (n : ℕ). n ∷ x) (same_first c d _ _ e) ∙ ap (λ (l : List ℕ). d ∷ l) later.0, later.1)

abbrev line_texts : List (List ℕ) → List ℕ
line_texts lines = flat_map (λ line. line ++ crlf_bytes) lines

line_split : (x r z : List ℕ) → ((x ++ crlf_bytes) ++ r) ++ z ≡ x ++ (13 ∷ 10 ∷ (r ++ z))
line_split x r z = append_assoc (x ++ crlf_bytes) r z ∙ append_assoc x crlf_bytes (r ++ z)

-- a line with bytes does not begin with CR
no_empty_line : (x a b : List ℕ) → IsTrailerLine x → 13 ∷ a ≡ x ++ (13 ∷ b) → ⊥
no_empty_line [] a b line e = omega (arith, line.some)
no_empty_line (c ∷ x) a b line e =
    let plain : is_extension_byte 13 ≡ true = subst (λ (n : ℕ). is_extension_byte n ≡ true) (sym (same_first 13 c _ _ e)) (All-head (λ v. is_extension_byte v ≡ true) c x line.plain) in
    absurd (cc)

lines_one : (xs ys : List (List ℕ)) (a b : List ℕ) → All IsTrailerLine xs → All IsTrailerLine ys
    → line_texts xs ++ (13 ∷ 10 ∷ a) ≡ line_texts ys ++ (13 ∷ 10 ∷ b) → a ≡ b
lines_one [] [] a b all_x all_y e = same_rest 10 10 a b (same_rest 13 13 _ _ e)
lines_one [] (y ∷ ys) a b all_x all_y e =
    absurd (no_empty_line y _ _ (All-head IsTrailerLine y ys all_y) (e ∙ line_split y (line_texts ys) (13 ∷ 10 ∷ b)))
lines_one (x ∷ xs) [] a b all_x all_y e =
    absurd (no_empty_line x _ _ (All-head IsTrailerLine x xs all_x) (sym e ∙ line_split x (line_texts xs) (13 ∷ 10 ∷ a)))
lines_one (x ∷ xs) (y ∷ ys) a b all_x all_y e =
    let line_x = All-head IsTrailerLine x xs all_x in
    let line_y = All-head IsTrailerLine y ys all_y in
    let texts = one_text x y _ _ line_x.plain line_y.plain
    (sym (line_split x (line_texts xs) (13 ∷ 10 ∷ a)) ∙ e ∙ line_split y (line_texts ys) (13 ∷ 10 ∷ b)) in
    lines_one xs ys a b (All-tail IsTrailerLine x xs all_x) (All-tail IsTrailerLine y ys all_y) (same_rest 10 10 _ _ texts.1)

-- ---- contents

whole_split : (chunks : List Chunk) (last : ChunkLine) (trailer : List (List ℕ)) (rest : List ℕ)
    → (print_chunks chunks ++ print_chunk_line last ++ print_trailer trailer) ++ rest
    ≡ print_chunks chunks ++ (print_chunk_line last ++ (line_texts trailer ++ (13 ∷ 10 ∷ rest)))
whole_split chunks last trailer rest =
    append_assoc (print_chunks chunks ++ print_chunk_line last) (print_trailer trailer) rest
    ∙ append_assoc (print_chunks chunks) (print_chunk_line last) (print_trailer trailer ++ rest)
    ∙ ap (λ (z : List ℕ). print_chunks chunks ++ (print_chunk_line last ++ z)) (append_assoc (line_texts trailer) crlf_bytes rest)

over_split : (chunks : List Chunk) (line : ChunkLine) (rest : List ℕ)
    → (print_chunks chunks ++ print_chunk_line line) ++ rest ≡ print_chunks chunks ++ (print_chunk_line line ++ rest)
over_split chunks line rest = append_assoc (print_chunks chunks) (print_chunk_line line) rest

-- what is read of a chunked content: its chunks, the line that stops them, and what follows that
record Chain (input : List ℕ) (chunks : List Chunk) (line : ChunkLine) (rest : List ℕ) : Type 0 where
  are : AreChunks chunks
  is_line : IsSizeLine line
  stops : Stops (length (bytes_of chunks)) line
  joined : input ≡ print_chunks chunks ++ (print_chunk_line line ++ rest)

zero_plus : (n : ℕ) → n ≡ 0 + n
zero_plus n = omega arith

chains_one : (input : List ℕ) (cs ds : List Chunk) (l m : ChunkLine) (t u : List ℕ) → Chain input cs l t → Chain input ds m u
    → (cs ≡ ds) × (l ≡ m) × (t ≡ u)
chains_one input cs ds l m t u one two =
    chunks_one 0 cs ds l m t u one.are.each two.are.each
    (subst (λ (n : ℕ). n ≤ MAX_CONTENT_LEN) (zero_plus _) one.are.fit) (subst (λ (n : ℕ). n ≤ MAX_CONTENT_LEN) (zero_plus _) two.are.fit)
    one.is_line two.is_line
    (subst (λ (n : ℕ). Stops n l) (zero_plus _) one.stops) (subst (λ (n : ℕ). Stops n m) (zero_plus _) two.stops)
    (sym one.joined ∙ two.joined)

chain_of_whole : (input text rest : List ℕ) (chunks : List Chunk) (is : IsChunked text chunks) → input ≡ text ++ rest
    → Chain input chunks is.last (line_texts is.trailer ++ (13 ∷ 10 ∷ rest))
chain_of_whole input text rest chunks is e = record {
  are = is.are;
  is_line = is.is_last.line;
  stops = inl is.is_last.size;
  joined = e ∙ ap (λ (t : List ℕ). t ++ rest) is.printed ∙ whole_split chunks is.last is.trailer rest;
}

chain_of_over : (input text rest : List ℕ) (chunks : List Chunk) (is : IsTooMuch text chunks) → input ≡ text ++ rest
    → Chain input chunks is.line rest
chain_of_over input text rest chunks is e = record {
  are = is.are;
  is_line = is.is_line;
  stops = inr is.over;
  joined = e ∙ ap (λ (t : List ℕ). t ++ rest) is.printed ∙ over_split chunks is.line rest;
}

-- a last chunk's line is not too much
not_both : (n size : ℕ) → size ≡ 0 → n ≤ MAX_CONTENT_LEN → MAX_CONTENT_LEN < n + size → ⊥
not_both n size none fits over = omega (arith, none, fits, over)

whole_and_over : (input : List ℕ) (cs ds : List Chunk) (l m : ChunkLine) (t u : List ℕ) → Chain input cs l t → Chain input ds m u
    → chunk_size l ≡ 0 → MAX_CONTENT_LEN < length (bytes_of ds) + chunk_size m → ⊥
whole_and_over input cs ds l m t u one two none over =
    let same = chains_one input cs ds l m t u one two in
    not_both (length (bytes_of ds)) (chunk_size m) (sym (ap chunk_size same.1) ∙ none) two.are.fit over

pub content_is_one : (framing : Framing) (input : List ℕ) → ContentIsOne framing input
content_is_one framing input given other rest after one two =
    by framing given other one.text two.text one.is_content two.is_content one.joined two.joined
  where
    by : (f : Framing) (g o : Content) (t u : List ℕ) → IsContent f t g → IsContent f u o → input ≡ t ++ rest → input ≡ u ++ after
        → (g ≡ o) × (rest ≡ after)
    by Empty (Whole x) (Whole y) t u a b p q =
        let same = same_front t u rest after (ap (λ (l : List ℕ). length l) (a.0 ∙ sym b.0)) (sym p ∙ q) in
        (ap (λ l. Whole l) (a.1 ∙ sym b.1), same.1)
    by Empty (Whole x) TooLong t u a b p q = absurd b
    by Empty (Whole x) Bad t u a b p q = absurd b
    by Empty TooLong o t u a b p q = absurd a
    by Empty Bad o t u a b p q = absurd a
    by (Fixed n) (Whole x) (Whole y) t u a b p q =
        let same = same_front t u rest after (a.1 ∙ sym b.1) (sym p ∙ q) in
        (ap (λ l. Whole l) (a.2 ∙ same.0 ∙ sym b.2), same.1)
    by (Fixed n) (Whole x) TooLong t u a b p q = absurd (omega (arith, a.0, b.0))
    by (Fixed n) (Whole x) Bad t u a b p q = absurd b
    by (Fixed n) TooLong (Whole y) t u a b p q = absurd (omega (arith, a.0, b.0))
    by (Fixed n) TooLong TooLong t u a b p q =
        let same = same_front t u rest after (ap (λ (l : List ℕ). length l) (a.1 ∙ sym b.1)) (sym p ∙ q) in
        (refl, same.1)
    by (Fixed n) TooLong Bad t u a b p q = absurd b
    by (Fixed n) Bad o t u a b p q = absurd a
    by Chunked (Whole x) (Whole y) t u a b p q =
        let one = chain_of_whole input t rest a.0 a.1 p in
        let two = chain_of_whole input u after b.0 b.1 q in
        let same = chains_one input a.0 b.0 a.1.last b.1.last _ _ one two in (
          ap (λ l. Whole l) (a.2 ∙ ap bytes_of same.0 ∙ sym b.2),
          lines_one a.1.trailer b.1.trailer rest after a.1.is_trailer.lines_are b.1.is_trailer.lines_are same.2,
        )
    by Chunked (Whole x) TooLong t u a b p q =
        absurd (whole_and_over input a.0 b.0 a.1.last b.1.line _ _ (chain_of_whole input t rest a.0 a.1 p) (chain_of_over input u after b.0 b.1 q) a.1.is_last.size b.1.over)
    by Chunked (Whole x) Bad t u a b p q = absurd b
    by Chunked TooLong (Whole y) t u a b p q =
        absurd (whole_and_over input b.0 a.0 b.1.last a.1.line _ _ (chain_of_whole input u after b.0 b.1 q) (chain_of_over input t rest a.0 a.1 p) b.1.is_last.size a.1.over)
    by Chunked TooLong TooLong t u a b p q =
        let same = chains_one input a.0 b.0 a.1.line b.1.line _ _ (chain_of_over input t rest a.0 a.1 p) (chain_of_over input u after b.0 b.1 q) in
        (refl, same.2)
    by Chunked TooLong Bad t u a b p q = absurd b
    by Chunked Bad o t u a b p q = absurd a
