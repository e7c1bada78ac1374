-- The readers read the pieces of the grammar.
use Rattle.std.proofs.Common.{◌≡◌, ℕ, zero, suc, ◌<◌, ◌≤◌, Bool, true, false, ◌==◌, ◌&&◌, List, [], ◌∷◌, ◌++◌, length, take, drop, Option, Some, None, if◌then◌else◌, refl, sym, ap, ◌∙◌, subst, arith}
use Rattle.std.proofs.lemmas.Option.{same_Some}
use Rattle.std.proofs.lemmas.Bool.Decides.{nat_tests}
use Rattle.std.proofs.lemmas.List.Elements.{All-nil, All-cons, All-head, All-tail}
use Rattle.std.proofs.Common.{inl, inr, ◌⊎◌}
use Rattle.std.specs.Prelude.{IsUtf8, bytes_eq}
use Rattle.std.specs.Str.{is_utf8}
use Rattle.std.proofs.lemmas.Str.{IsUtf8-from_is_utf8, is_utf8-from_IsUtf8}
use Rattle.std.proofs.lemmas.List.{take-append-drop}
use Rattle.std.proofs.lemmas.Slice.Eq.{bytes_eq-Decides}
use Rattle.httparse.specs.Grammar.{LineEnd, crlf, lf, print_end, print_version, AllPass, Field, is_token_byte, is_uri_byte, is_value_byte}
use Rattle.httparse.specs.Pieces.{Piece, Then, Newline, Word, Target, Version, Text, FieldLine}
use Rattle.httparse.proofs.PieceLemmas.{colon_ends_token, FieldLine_parts}
use Rattle.httparse.proofs.ReadLemmas.{FieldLine_done}
use Rattle.tow_message.specs.FirstHead.{Got, bind, read_then, after, read_many, read_newline, span_of, word_end, read_word, target_end, read_target, read_minor, or_else, read_version, text_end, read_text, field_of, read_field}

-- the reader gives what the piece allows, and all of it
pub record Reads {A : Type 0} (G : Piece A) (p : List ℕ → Got A) : Type 0 where
  pub sound : (text rest : List ℕ) (a : A) → p text ≡ Some (a, rest) → G a text rest
  pub complete : (text rest : List ℕ) (a : A) → G a text rest → p text ≡ Some (a, rest)

pub bind_some : {A B : Type 0} (o : Option A) (f : A → Option B) (y : B) → bind o f ≡ Some y → (x : A) × (o ≡ Some x) × (f x ≡ Some y)
bind_some None f y e = absurd (cc)
bind_some (Some x) f y e = (x, refl, e)

pub Then_reads : {A B : Type 0} (G : Piece A) (H : Piece B) (p : List ℕ → Got A) (q : List ℕ → Got B)
    → Reads G p → Reads H q → Reads (Then G H) (read_then p q)
unfolding read_then
Then_reads G H p q rp rq = record {
  sound = λ text rest t e.
      let a = bind_some (p text) _ _ e in
      let b = bind_some (q a.0.1) _ _ a.2 in
      let s = same_Some _ _ b.2 in
      let g = rp.sound text a.0.1 a.0.0 a.1 in
      let h = rq.sound a.0.1 b.0.1 b.0.0 b.1 in
      (a.0.1, subst (λ v. G v text a.0.1) (ap (λ v. v.0.0) s) g, subst (λ v. H v.0.1 a.0.1 v.1) s h);
  complete = λ text rest t x.
      ap (λ o. bind o (λ x. bind (q x.1) (λ y. Some ((x.0, y.0), y.1)))) (rp.complete text x.0 t.0 x.1)
      ∙ ap (λ o. bind o (λ y. Some ((t.0, y.0), y.1))) (rq.complete x.0 rest t.1 x.2);
}

-- ---- repetition

abbrev pub Manys : {A : Type 0} → Piece A → List A → List ℕ → List ℕ → Type 0
Manys G [] text rest = text ≡ rest
Manys G (a ∷ xs) text rest = (middle : List ℕ) × G a text middle × Manys G xs middle rest

after_sound : {A : Type 0} (G : Piece A) (p : List ℕ → Got A) (text : List ℕ) (o : Got A) (go : List ℕ → List A × List ℕ)
    → p text ≡ o → Reads G p → ((t : List ℕ) → Manys G (go t).0 t (go t).1) → Manys G (after text o go).0 text (after text o go).1
after_sound G p text None go e r rest = refl
after_sound G p text (Some x) go e r rest = (x.1, r.sound text x.1 x.0 e, rest x.1)

pub many_sound : {A : Type 0} (G : Piece A) (p : List ℕ → Got A) → Reads G p → (n : ℕ) (text : List ℕ)
    → Manys G (read_many p n text).0 text (read_many p n text).1
unfolding read_many
many_sound G p r zero text = refl
many_sound G p r (suc n) text = after_sound G p text (p text) (read_many p n) refl r (λ t. many_sound G p r n t)

pub many_complete : {A : Type 0} (G : Piece A) (p : List ℕ → Got A) → Reads G p → (n : ℕ) (xs : List A) (text rest : List ℕ)
    → Manys G xs text rest → p rest ≡ None → length xs ≤ n → read_many p n text ≡ (xs, rest)
unfolding read_many
many_complete G p r zero [] text rest e none fits = ap (λ t. ([], t)) e
many_complete G p r (suc n) [] text rest e none fits =
    ap (λ o. after text o (read_many p n)) (ap p e ∙ none) ∙ ap (λ t. ([], t)) e
many_complete G p r zero (a ∷ xs) text rest m none fits = absurd (omega arith)
many_complete G p r (suc n) (a ∷ xs) text rest m none fits =
    let later = many_complete G p r n xs m.0 rest m.2 none (omega arith) in
    ap (λ o. after text o (read_many p n)) (r.complete text m.0 a m.1)
    ∙ ap (λ s. (a ∷ s.0, s.1)) later

-- ---- leaves

is_byte : (b n : ℕ) → (b == n) ≡ true → b ≡ n
is_byte b n e = grind (arith, nat_tests)

both_true : (x y : Bool) → (x && y) ≡ true → (x ≡ true) × (y ≡ true)
both_true true true e = (refl, refl)
both_true true false e = absurd (cc)
both_true false y e = absurd (cc)

abbrev one_end : Bool → Got LineEnd
one_end nl = if nl then Some (lf, []) else None

abbrev two_end : Bool → Bool → ℕ → List ℕ → Got LineEnd
two_end nl cr c t = if nl then Some (lf, c ∷ t) else (if cr then Some (crlf, t) else None)

one_sound : (b : ℕ) (nl : Bool) (rest : List ℕ) (a : LineEnd) → (b == 10) ≡ nl
    → one_end nl ≡ Some (a, rest) → b ∷ [] ≡ print_end a ++ rest
one_sound b true rest a is e =
    subst (λ (v : LineEnd × List ℕ). b ∷ [] ≡ print_end v.0 ++ v.1) (same_Some _ _ e) (ap (λ x. x ∷ []) (is_byte b 10 is))
one_sound b false rest a is e = absurd (cc)

two_sound : (b c : ℕ) (t rest : List ℕ) (a : LineEnd) (nl cr : Bool) → (b == 10) ≡ nl → ((b == 13) && (c == 10)) ≡ cr
    → two_end nl cr c t ≡ Some (a, rest) → b ∷ c ∷ t ≡ print_end a ++ rest
two_sound b c t rest a true cr is_nl is_cr e =
    subst (λ (v : LineEnd × List ℕ). b ∷ c ∷ t ≡ print_end v.0 ++ v.1) (same_Some _ _ e) (ap (λ x. x ∷ c ∷ t) (is_byte b 10 is_nl))
two_sound b c t rest a false true is_nl is_cr e =
    let both = both_true (b == 13) (c == 10) is_cr in
    subst (λ (v : LineEnd × List ℕ). b ∷ c ∷ t ≡ print_end v.0 ++ v.1) (same_Some _ _ e)
    (ap (λ x. x ∷ c ∷ t) (is_byte b 13 both.0) ∙ ap (λ x. 13 ∷ x ∷ t) (is_byte c 10 both.1))
two_sound b c t rest a false false is_nl is_cr e = absurd (cc)

newline_sound : (text rest : List ℕ) (a : LineEnd) → read_newline text ≡ Some (a, rest) → text ≡ print_end a ++ rest
unfolding read_newline
newline_sound [] rest a e = absurd (cc)
newline_sound (b ∷ []) rest a e = one_sound b (b == 10) rest a refl e
newline_sound (b ∷ c ∷ t) rest a e = two_sound b c t rest a (b == 10) ((b == 13) && (c == 10)) refl refl e

lf_read : (rest : List ℕ) → read_newline (10 ∷ rest) ≡ Some (lf, rest)
unfolding read_newline
lf_read [] = refl
lf_read (c ∷ rest) = refl

crlf_read : (rest : List ℕ) → read_newline (13 ∷ 10 ∷ rest) ≡ Some (crlf, rest)
unfolding read_newline
crlf_read rest = refl

newline_complete : (text rest : List ℕ) (a : LineEnd) → text ≡ print_end a ++ rest → read_newline text ≡ Some (a, rest)
newline_complete text rest crlf e = ap read_newline e ∙ crlf_read rest
newline_complete text rest lf e = ap read_newline e ∙ lf_read rest

pub Newline_reads : Reads Newline read_newline
Newline_reads = record { sound = newline_sound; complete = newline_complete }

-- ---- words

abbrev longer : Bool → ℕ → List ℕ → List ℕ × List ℕ → List ℕ × List ℕ
longer t b text s = if t then (b ∷ s.0, s.1) else ([], b ∷ text)

span_step : (test : ℕ → Bool) (b : ℕ) (text : List ℕ) (s : List ℕ × List ℕ) (t : Bool) → test b ≡ t
    → (text ≡ s.0 ++ s.1) × AllPass test s.0
    → (b ∷ text ≡ (longer t b text s).0 ++ (longer t b text s).1) × AllPass test (longer t b text s).0
span_step test b text s true is rest = (ap (λ x. b ∷ x) rest.0, All-cons (λ v. test v ≡ true) b _ is rest.1)
span_step test b text s false is rest = (refl, All-nil _)

pub span_splits : (test : ℕ → Bool) (text : List ℕ)
    → (text ≡ (span_of test text).0 ++ (span_of test text).1) × AllPass test (span_of test text).0
unfolding span_of
span_splits test [] = (refl, All-nil _)
span_splits test (b ∷ text) = span_step test b text (span_of test text) (test b) refl (span_splits test text)

-- a word up to a byte that fails the test
pub span_word : (test : ℕ → Bool) (word : List ℕ) (c : ℕ) (rest : List ℕ) → AllPass test word → test c ≡ false
    → span_of test (word ++ c ∷ rest) ≡ (word, c ∷ rest)
unfolding span_of
span_word test [] c rest all fails = ap (λ t. longer t c rest (span_of test rest)) fails
span_word test (b ∷ word) c rest all fails =
    ap (λ t. longer t b (word ++ c ∷ rest) (span_of test (word ++ c ∷ rest)))
    (All-head (λ v. test v ≡ true) b word all)
    ∙ ap (λ (s : List ℕ × List ℕ). (b ∷ s.0, s.1)) (span_word test word c rest (All-tail (λ v. test v ≡ true) b word all) fails)

abbrev ends : Bool → ℕ → List ℕ → List ℕ → Got (List ℕ)
ends t b w text = if t then Some (b ∷ w, text) else None

stop_step : (stop b c : ℕ) (w text : List ℕ) (t : Bool) (word rest : List ℕ) → (c == stop) ≡ t → ends t b w text ≡ Some (word, rest)
    → (0 < length word) × (b ∷ w ≡ word) × (c ∷ text ≡ stop ∷ rest)
stop_step stop b c w text true word rest is e =
    let s = same_Some _ _ e in
    let whole : b ∷ w ≡ word = ap (λ (v : List ℕ × List ℕ). v.0) s in
    let left : text ≡ rest = ap (λ (v : List ℕ × List ℕ). v.1) s in
    (subst (λ (v : List ℕ). 0 < length v) whole (omega arith), whole, ap (λ x. x ∷ text) (is_byte c stop is) ∙ ap (λ t. stop ∷ t) left)
stop_step stop b c w text false word rest is e = absurd (cc)

word_sound : (stop : ℕ) (s : List ℕ × List ℕ) (word rest : List ℕ) → word_end stop s ≡ Some (word, rest)
    → (0 < length word) × (s.0 ≡ word) × (s.1 ≡ stop ∷ rest)
word_sound stop ([], text) word rest e = absurd (cc)
word_sound stop (b ∷ w, []) word rest e = absurd (cc)
word_sound stop (b ∷ w, c ∷ text) word rest e = stop_step stop b c w text (c == stop) word rest refl e

same_byte : (b : ℕ) → (b == b) ≡ true
same_byte b = grind (arith, nat_tests)

word_complete : (stop : ℕ) (word rest : List ℕ) → 0 < length word → word_end stop (word, stop ∷ rest) ≡ Some (word, rest)
word_complete stop [] rest some = absurd (omega arith)
word_complete stop (b ∷ word) rest some = ap (λ t. ends t b word rest) (same_byte stop)

pub Word_reads : (test : ℕ → Bool) (stop : ℕ) → test stop ≡ false → Reads (Word test stop) (read_word test stop)
Word_reads test stop fails = record {
  sound = λ text rest word e.
      let w = word_sound stop (span_of test text) word rest e in
      let s = span_splits test text in
      (w.0, subst (AllPass test) w.1 s.1, s.0 ∙ ap (λ t. t ++ (span_of test text).1) w.1 ∙ ap (λ t. word ++ t) w.2);
  complete = λ text rest word x.
      ap (λ t. word_end stop (span_of test t)) x.2 ∙ ap (word_end stop) (span_word test word stop rest x.1 fails)
      ∙ word_complete stop word rest x.0;
}

-- ---- target, version, text

abbrev kept : Bool → List ℕ × List ℕ → Got (List ℕ)
kept t x = if t then Some x else None

utf8_step : (x : List ℕ × List ℕ) (t : Bool) (target rest : List ℕ) → is_utf8 x.0 ≡ t → kept t x ≡ Some (target, rest)
    → (◌≡◌ {A = Got (List ℕ)} (Some x) (Some (target, rest))) × IsUtf8 target
utf8_step x true target rest is e =
    let s = same_Some _ _ e in
    (e, subst (λ (v : List ℕ × List ℕ). IsUtf8 v.0) s (IsUtf8-from_is_utf8 x.0 is))
utf8_step x false target rest is e = absurd (cc)

target_sound : (o : Got (List ℕ)) (target rest : List ℕ) → target_end o ≡ Some (target, rest)
    → (o ≡ Some (target, rest)) × IsUtf8 target
target_sound None target rest e = absurd (cc)
target_sound (Some x) target rest e = utf8_step x (is_utf8 x.0) target rest refl e

pub Target_reads : Reads Target read_target
Target_reads =
    let words = Word_reads is_uri_byte 32 refl in
    record {
      sound = λ text rest target e.
          let t = target_sound (read_word is_uri_byte 32 text) target rest e in
          (words.sound text rest target t.0, t.1);
      complete = λ text rest target x.
          ap target_end (words.complete text rest target x.0) ∙ ap (λ t. kept t (target, rest)) (is_utf8-from_IsUtf8 target x.1);
    }

abbrev minored : Bool → ℕ → List ℕ → Got ℕ
minored t minor text = if t then Some (minor, drop 8 text) else None

minor_step : (minor m : ℕ) (text rest : List ℕ) (t : Bool) → bytes_eq (take 8 text) (print_version minor) ≡ t
    → minored t minor text ≡ Some (m, rest) → (m ≡ minor) × (text ≡ print_version minor ++ rest)
minor_step minor m text rest true is e =
    let s = same_Some _ _ e in
    let number : minor ≡ m = ap (λ (v : ℕ × List ℕ). v.0) s in
    let left : drop 8 text ≡ rest = ap (λ (v : ℕ × List ℕ). v.1) s in
    let front : take 8 text ≡ print_version minor = (bytes_eq-Decides (take 8 text) (print_version minor)).0 is in
    (sym number, sym (take-append-drop 8 text) ∙ ap (λ t. t ++ drop 8 text) front ∙ ap (λ t. print_version minor ++ t) left)
minor_step minor m text rest false is e = absurd (cc)

or_else_some : {A : Type 0} (o other : Option A) (x : A) → or_else o other ≡ Some x → (o ≡ Some x) ⊎ (other ≡ Some x)
or_else_some None other x e = inr e
or_else_some (Some y) other x e = inl e

version_sound : (text rest : List ℕ) (m : ℕ) → read_version text ≡ Some (m, rest) → (m ≤ 1) × (text ≡ print_version m ++ rest)
version_sound text rest m e = pick (or_else_some (read_minor 0 text) (read_minor 1 text) (m, rest) e)
  where
    one : (n : ℕ) → n ≤ 1 → read_minor n text ≡ Some (m, rest) → (m ≤ 1) × (text ≡ print_version m ++ rest)
    one n small e =
        let s = minor_step n m text rest (bytes_eq (take 8 text) (print_version n)) refl e in
        (omega (arith, s.0), s.1 ∙ ap (λ (v : ℕ). print_version v ++ rest) (sym s.0))

    pick : (read_minor 0 text ≡ Some (m, rest)) ⊎ (read_minor 1 text ≡ Some (m, rest)) → (m ≤ 1) × (text ≡ print_version m ++ rest)
    pick (inl e) = one 0 (omega arith) e
    pick (inr e) = one 1 (omega arith) e

version_complete : (m : ℕ) (rest : List ℕ) → m ≤ 1 → read_version (print_version m ++ rest) ≡ Some (m, rest)
version_complete zero rest small = refl
version_complete (suc zero) rest small = refl
version_complete (suc (suc m)) rest small = absurd (omega arith)

pub Version_reads : Reads Version read_version
Version_reads = record {
  sound = version_sound;
  complete = λ text rest m x. ap read_version x.1 ∙ version_complete m rest x.0;
}

text_complete : (raw : List ℕ) (e : LineEnd) (rest : List ℕ) → AllPass is_value_byte raw
    → read_text (raw ++ (print_end e ++ rest)) ≡ Some ((raw, e), rest)
text_complete raw crlf rest all =
    ap text_end (span_word is_value_byte raw 13 (10 ∷ rest) all refl) ∙ ap (λ o. bind o (λ e. Some ((raw, e.0), e.1))) (crlf_read rest)
text_complete raw lf rest all =
    ap text_end (span_word is_value_byte raw 10 rest all refl) ∙ ap (λ o. bind o (λ e. Some ((raw, e.0), e.1))) (lf_read rest)

pub Text_reads : Reads Text read_text
Text_reads = record {
  sound = λ text rest t e.
      let s = span_splits is_value_byte text in
      let b = bind_some (read_newline (span_of is_value_byte text).1) _ _ e in
      let same = same_Some _ _ b.2 in
      let line = newline_sound (span_of is_value_byte text).1 b.0.1 b.0.0 b.1 in
      subst (λ (v : (List ℕ × LineEnd) × List ℕ). AllPass is_value_byte v.0.0 × (text ≡ v.0.0 ++ (print_end v.0.1 ++ v.1))) same
      (s.1, s.0 ∙ ap (λ t. (span_of is_value_byte text).0 ++ t) line);
  complete = λ text rest t x. ap read_text x.1 ∙ text_complete t.0 t.1 rest x.0;
}

pub Field_reads : Reads FieldLine read_field
Field_reads =
    let row = Then_reads (Word is_token_byte 58) Text (read_word is_token_byte 58) read_text (Word_reads is_token_byte 58 colon_ends_token) Text_reads in
    record {
      sound = λ text rest f e.
          let b = bind_some (read_then (read_word is_token_byte 58) read_text text) _ _ e in
          let same = same_Some _ _ b.2 in
          let parts = row.sound text b.0.1 b.0.0 b.1 in
          subst (λ (v : Field × List ℕ). FieldLine v.0 text v.1) same
          (FieldLine_done b.0.0.0 b.0.0.1.0 b.0.0.1.1 text parts.0 b.0.1 parts.1 parts.2);
      complete = λ text rest f x.
          ap (λ o. bind o (λ x. Some (field_of x))) (row.complete text rest (f.name, (f.raw, f.end)) (FieldLine_parts f text rest x));
    }
