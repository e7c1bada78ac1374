-- The head's function is the grammar of the parser, within the server's bounds.
use Rattle.std.proofs.Common.{◌≡◌, ◌↔◌, ℕ, suc, ◌<◌, ◌≤◌, Bool, true, false, List, [], ◌∷◌, ◌++◌, length, Some, None, if◌then◌else◌, refl, sym, ap, ◌∙◌, subst, arith, append_assoc, length-append, All, flat_map}
use Rattle.std.proofs.lemmas.Option.{same_Some}
use Rattle.std.proofs.lemmas.List.Elements.{All-nil, All-cons, All-head, All-tail}
use Rattle.httparse.specs.Grammar.{LineEnd, crlf, lf, print_end, print_blank, Field, IsField, print_field, RequestHead, ReadsRequest, is_token_byte}
use Rattle.httparse.specs.Pieces.{Piece, Then, Stops, is_newline, Newline, Blank, FieldLine, Section, RequestStart}
use Rattle.httparse.proofs.PieceLemmas.{newline_not_stopped, Stops-FieldLine, space_ends_token}
use Rattle.httparse.proofs.GrammarLemmas.{request_tree, request_pieces, request_from_pieces}
use Rattle.tow_message.specs.FirstHead.{Got, bind, read_then, read_many, read_newline, blank_end, read_blank, read_field, section_end, read_section, read_start, head_from, head_of}
use Rattle.tow_message.proofs.HeadReaders.{Reads, bind_some, Then_reads, Manys, many_sound, many_complete, Newline_reads, Word_reads, Target_reads, Version_reads, Field_reads}

manys_length : {A : Type 0} (G : Piece A) → ((a : A) (t r : List ℕ) → G a t r → length r < length t) → (xs : List A) (text rest : List ℕ)
    → Manys G xs text rest → length xs ≤ length text
manys_length G shorter [] text rest m = omega arith
manys_length G shorter (x ∷ xs) text rest m =
    let later = manys_length G shorter xs m.0 rest m.2 in
    let one = shorter x text m.0 m.1 in
    omega arith

newline_shorter : (a : LineEnd) (t r : List ℕ) → t ≡ print_end a ++ r → length r < length t
newline_shorter crlf t r e = let n : length t ≡ suc (suc (length r)) = ap (λ (x : List ℕ). length x) e in omega arith
newline_shorter lf t r e = let n : length t ≡ suc (length r) = ap (λ (x : List ℕ). length x) e in omega arith

field_shorter : (f : Field) (t r : List ℕ) → FieldLine f t r → length r < length t
field_shorter f t r x =
    let n : length t ≡ length (print_field f ++ r) = ap (λ (y : List ℕ). length y) x.1 in
    omega (arith, x.0.name.0, length-append (print_field f) r, length-append (f.name ++ 58 ∷ f.raw) (print_end f.end), length-append f.name (58 ∷ f.raw))

-- ---- empty lines

blank_manys : (ends : List LineEnd) (text rest : List ℕ) → text ≡ print_blank ends ++ rest → Manys Newline ends text rest
blank_manys [] text rest e = e
blank_manys (x ∷ ends) text rest e =
    (print_blank ends ++ rest, e ∙ append_assoc (print_end x) (print_blank ends) rest, blank_manys ends _ rest refl)

manys_blank : (ends : List LineEnd) (text rest : List ℕ) → Manys Newline ends text rest → text ≡ print_blank ends ++ rest
manys_blank [] text rest m = m
manys_blank (x ∷ ends) text rest m =
    m.1 ∙ ap (λ t. print_end x ++ t) (manys_blank ends m.0 rest m.2) ∙ sym (append_assoc (print_end x) (print_blank ends) rest)

no_newline_step : (rest : List ℕ) (o : Got LineEnd) → read_newline rest ≡ o → Stops is_newline rest → o ≡ None
no_newline_step rest None e stops = refl
no_newline_step rest (Some x) e stops =
    absurd (newline_not_stopped x.0 x.1 rest (sym (Newline_reads.sound rest x.1 x.0 e)) stops)

no_newline : (rest : List ℕ) → Stops is_newline rest → read_newline rest ≡ None
no_newline rest stops = no_newline_step rest (read_newline rest) refl stops

abbrev stopped : Bool → List LineEnd → List ℕ → Got (List LineEnd)
stopped t ends text = if t then None else Some (ends, text)

stopped_sound : (es : List LineEnd) (b : ℕ) (text : List ℕ) (t : Bool) (ends : List LineEnd) (rest : List ℕ) → is_newline b ≡ t
    → stopped t es (b ∷ text) ≡ Some (ends, rest) → (es ≡ ends) × (b ∷ text ≡ rest) × Stops is_newline rest
stopped_sound es b text true ends rest is e = absurd (cc)
stopped_sound es b text false ends rest is e =
    let s = same_Some _ _ e in
    let left : b ∷ text ≡ rest = ap (λ (v : List LineEnd × List ℕ). v.1) s in
    (ap (λ (v : List LineEnd × List ℕ). v.0) s, left, subst (Stops is_newline) left is)

blank_end_sound : (m : List LineEnd × List ℕ) (ends : List LineEnd) (rest : List ℕ) → blank_end m ≡ Some (ends, rest)
    → (m.0 ≡ ends) × (m.1 ≡ rest) × Stops is_newline rest
blank_end_sound (es, []) ends rest e = absurd (cc)
blank_end_sound (es, b ∷ text) ends rest e = stopped_sound es b text (is_newline b) ends rest refl e

blank_end_complete : (ends : List LineEnd) (rest : List ℕ) → Stops is_newline rest → blank_end (ends, rest) ≡ Some (ends, rest)
blank_end_complete ends [] stops = absurd stops
blank_end_complete ends (b ∷ rest) stops = ap (λ t. stopped t ends (b ∷ rest)) stops

pub Blank_reads : Reads Blank read_blank
Blank_reads = record {
  sound = λ text rest ends e.
      let m = read_many read_newline (length text) text in
      let b = blank_end_sound m ends rest e in
      let whole = manys_blank m.0 text m.1 (many_sound Newline read_newline Newline_reads (length text) text) in
      (whole ∙ ap (λ x. print_blank x ++ m.1) b.0 ∙ ap (λ t. print_blank ends ++ t) b.1, b.2);
  complete = λ text rest ends x.
      let m = blank_manys ends text rest x.0 in
      ap blank_end (many_complete Newline read_newline Newline_reads (length text) ends text rest m (no_newline rest x.1)
      (manys_length Newline newline_shorter ends text rest m))
      ∙ blank_end_complete ends rest x.1;
}

-- ---- sections

fields_manys : (fields : List Field) (text rest : List ℕ) → All IsField fields → text ≡ flat_map print_field fields ++ rest
    → Manys FieldLine fields text rest
fields_manys [] text rest all e = e
fields_manys (f ∷ fields) text rest all e = (
  flat_map print_field fields ++ rest,
  (All-head IsField f fields all, e ∙ append_assoc (print_field f) (flat_map print_field fields) rest),
  fields_manys fields _ rest (All-tail IsField f fields all) refl,
)

manys_fields : (fields : List Field) (text rest : List ℕ) → Manys FieldLine fields text rest
    → All IsField fields × (text ≡ flat_map print_field fields ++ rest)
manys_fields [] text rest m = (All-nil _, m)
manys_fields (f ∷ fields) text rest m =
    let later = manys_fields fields m.0 rest m.2 in (
      All-cons IsField f fields m.1.0 later.0,
      m.1.1 ∙ ap (λ t. print_field f ++ t) later.1 ∙ sym (append_assoc (print_field f) (flat_map print_field fields) rest),
    )

no_field_step : (e : LineEnd) (rest : List ℕ) (o : Got Field) → read_field (print_end e ++ rest) ≡ o → o ≡ None
no_field_step e rest None is = refl
no_field_step e rest (Some x) is =
    absurd (newline_not_stopped e rest _ refl (Stops-FieldLine x.0 _ x.1 (Field_reads.sound (print_end e ++ rest) x.1 x.0 is)))

pub Section_reads : Reads Section read_section
Section_reads = record {
  sound = λ text rest s e.
      let m = read_many read_field (length text) text in
      let b = bind_some (read_newline m.1) _ _ e in
      let same = same_Some _ _ b.2 in
      let lines = manys_fields m.0 text m.1 (many_sound FieldLine read_field Field_reads (length text) text) in
      let end = Newline_reads.sound m.1 b.0.1 b.0.0 b.1 in
      subst (λ (v : (List Field × LineEnd) × List ℕ). Section v.0 text v.1) same
      (lines.0, lines.1 ∙ ap (λ t. flat_map print_field m.0 ++ t) end ∙ sym (append_assoc (flat_map print_field m.0) (print_end b.0.0) b.0.1));
  complete = λ text rest s x.
      let split = x.1 ∙ append_assoc (flat_map print_field s.0) (print_end s.1) rest in
      let m = fields_manys s.0 text (print_end s.1 ++ rest) x.0 split in
      ap section_end (many_complete FieldLine read_field Field_reads (length text) s.0 text (print_end s.1 ++ rest) m
      (no_field_step s.1 rest _ refl) (manys_length FieldLine field_shorter s.0 text _ m))
      ∙ ap (λ o. bind o (λ e. Some ((s.0, e.0), e.1))) (Newline_reads.complete (print_end s.1 ++ rest) rest s.1 refl);
}

-- ---- heads

pub Start_reads : Reads RequestStart read_start
Start_reads =
    Then_reads _ _ _ _ Blank_reads (Then_reads _ _ _ _ (Word_reads is_token_byte 32 space_ends_token)
    (Then_reads _ _ _ _ Target_reads (Then_reads _ _ _ _ Version_reads Newline_reads)))

-- the function is the parser's grammar
pub finds_heads : (bytes : List ℕ) (h : RequestHead) (rest : List ℕ) → ReadsRequest bytes h rest ↔ (head_of bytes ≡ Some (h, rest))
unfolding head_of
finds_heads bytes h rest =
    let whole : Reads (Then RequestStart Section) (read_then read_start read_section) = Then_reads RequestStart Section read_start read_section Start_reads Section_reads in (
      λ reads. ap (λ o. bind o (λ x. Some (head_from x))) (whole.complete bytes rest (request_tree h) (request_pieces bytes h rest reads)),
      λ e.
          let b = bind_some (read_then read_start read_section bytes) _ _ e in
          let same = same_Some _ _ b.2 in
          subst (λ (v : RequestHead × List ℕ). ReadsRequest bytes v.0 v.1) same
          (request_from_pieces bytes b.0.0 b.0.1 (whole.sound bytes b.0.1 b.0.0 b.1)),
    )
