-- What is written of a template that some text has can be printed, and reads back as the template. Where the short forms are no Word and
-- end with a backslash, the scan of the text's own bytes is compared with theirs, and with that of the last long form.
use Rattle.std.specs.Prelude.{◌≡◌, ◌⊎◌, ℕ, ◌<◌, Bool, true, false, not, ◌&&◌, ◌==◌, List, [], ◌∷◌, ◌++◌, length, if◌then◌else◌, Option, None, Some, option_map, is_some, Ok}
use Rattle.std.specs.Option.{unwrap_or}
use Rattle.std.proofs.Common.{refl, sym, ap, ap₂, ◌∙◌, subst, arith, length-append}
use Rattle.std.proofs.lemmas.Bool.{and_parts}
use mathlib.Core.Logic.{inl, inr}
use Rattle.tow_model.specs.declared.attribute.Attribute.{Attribute}
use Rattle.tow_model.specs.declared.attribute.Piece.{Piece}
use Rattle.tow_model.specs.declared.attribute.Piece.TheVariants.{Literal, Value}
use Rattle.tow_language.specs.Tokens.{are_pieces, last_byte}
use Rattle.tow_language.specs.Templates.{template_of, spelled_attribute, spelled_piece, spelled_template, long_word, spelled_long}
use Rattle.tow_language.specs.Laws.{IsNoLiteral, Spells}
use Rattle.tow_language.specs.Printed.{is_word, is_unquotable, written_template}
use Rattle.tow_language.proofs.Cut.{sigil}
use Rattle.tow_attr.proofs.Braced.{form_is}
use Rattle.tow_attr.proofs.Shapes.{IsShape, two, braced, not_true}
use Rattle.tow_attr.proofs.Spelled.{templates_are_spelled}
use Rattle.tow_print.proofs.Forms.{short_runs, own_short, FormIs, of_letter, of_word, of_name, form_view, own_braced, own_line, long_of, is_long, long_spells, form_ends}
use Rattle.tow_print.proofs.Pieces.{last_append, spelled_before, long_is}
use Rattle.tow_print.proofs.Scans.{is_one_line, IsBraced, braced_runs, IsApart, scan, goes_on, scan_runs, IsBeside, scan_beside, scan_apart}
use Rattle.tow_print.proofs.Templates.{is_plain, own_form, spells_again}
use Rattle.tow_print.proofs.Texts.{IsFine}

shape_apart : (spelled rest : List ℕ) → IsShape spelled → IsApart (spelled ++ rest)
shape_apart spelled rest (two c e) = record { no_arrow = refl; no_brace = refl }
shape_apart spelled rest (braced s inside e n) =
    elim (sigil s e) [
      | inl f ↦ record { no_arrow = ap (λ k. k == 62) f; no_brace = ap (λ k. k == 123) f }
      | inr f ↦ record { no_arrow = ap (λ k. k == 62) f; no_brace = ap (λ k. k == 123) f }
    ]

-- what stands behind a literal piece is apart from it
apart_behind : (text : List ℕ) (ps : List Piece) → Spells text ps → IsNoLiteral ps → IsApart text
apart_behind text [] e bare = subst IsApart (sym e) (record { no_arrow = refl; no_brace = refl })
apart_behind text (Literal bytes ∷ ps) h bare = absurd bare
apart_behind text (Value a ∷ ps) (spelled, after, e, form, h) bare = subst IsApart (sym e) (shape_apart spelled after (form_is a spelled form).0)

-- ONE PIECE MORE

-- Of pieces that are spelled as a Word from the state i on: from the state j on the short forms are pieces of a word; or with the last
-- long form they are; or no piece has a long form, and the short forms are pieces if only the brace that is open in j were closed.
data Outcome (i j : Bool) (ps : List Piece) : Type 0 where
  short : are_pieces j (spelled_template ps) [] ≡ true → Outcome i j ps
  long : (spelled : List ℕ) → spelled_long ps ≡ Some spelled → 0 < length spelled → are_pieces j spelled [] ≡ true → Outcome i j ps
  late : i ≡ false → j ≡ true → spelled_long ps ≡ None → are_pieces false (spelled_template ps) [] ≡ true → Outcome i j ps

-- a piece before a spelling with a long form
long_before : (p : Piece) (ps : List Piece) (later : List ℕ) → spelled_long ps ≡ Some later → spelled_long (p ∷ ps) ≡ Some (spelled_piece p ++ later)
long_before p ps later e = long_is p ps ∙ ap (spelled_before p ps) e

longer : (a b : List ℕ) → 0 < length b → 0 < length (a ++ b)
longer a b some = omega (arith, some, length-append a b)

literal_more : (bytes : List ℕ) (ps : List Piece) (after : List ℕ) (i j k l : Bool) → Spells after ps → IsNoLiteral ps → IsBeside i j → scan i (spelled_piece (Literal bytes)) ≡ Some k →
    scan j (spelled_piece (Literal bytes)) ≡ Some l → Outcome k l ps → Outcome i j (Literal bytes ∷ ps)
literal_more bytes ps after i j k l h bare beside e f (short g) =
    let rest = spelled_template ps in
    short (scan_runs j (spelled_piece (Literal bytes)) rest (apart_behind rest ps (spells_again after ps h) bare) ∙ ap (λ o. goes_on o rest) f ∙ g)
literal_more bytes ps after i j k l h bare beside e f (long later is some g) =
    let front = spelled_piece (Literal bytes) in
    long (front ++ later) (long_before (Literal bytes) ps later is) (longer front later some)
    (scan_runs j front later (apart_behind later ps (long_spells ps after later h is) bare) ∙ ap (λ o. goes_on o later) f ∙ g)
literal_more bytes ps after i j k l h bare beside e f (late out inside none g) =
    let front = spelled_piece (Literal bytes) in let rest = spelled_template ps in
    let was = scan_apart front i j k l beside e f out inside in
    late was.0 was.1 (long_is (Literal bytes) ps ∙ ap (spelled_before (Literal bytes) ps) none)
    (scan_runs false front rest (apart_behind rest ps (spells_again after ps h) bare) ∙ ap (λ o. goes_on o rest) (ap (λ t. scan t front) (sym was.0) ∙ e ∙ ap (λ t. Some t) out) ∙ g)

-- an attribute without a name, which leaves the text's scan as it was, or has a long form
plain_more : (a : Attribute) (ps : List Piece) (i j k : Bool) → is_plain a ≡ true → (k ≡ i) ⊎ (is_some (long_word a) ≡ true) → Outcome k j ps → Outcome i j (Value a ∷ ps)
plain_more a ps i j k plain kept (short g) = short (short_runs (spelled_attribute a) (spelled_template ps) j (own_short a plain) ∙ g)
plain_more a ps i j k plain kept (long later is some g) =
    long (spelled_attribute a ++ later) (long_before (Value a) ps later is) (longer (spelled_attribute a) later some) (short_runs (spelled_attribute a) later j (own_short a plain) ∙ g)
plain_more a ps i j k plain kept (late out inside none g) = by_word (long_word a) refl kept
  where
    rest : List ℕ
    rest = spelled_template ps

    spelled : (o : Option (List ℕ)) → long_word a ≡ o → spelled_long (Value a ∷ ps) ≡ option_map (λ form. form ++ rest) (option_map long_of o)
    spelled o e = long_is (Value a) ps ∙ ap (spelled_before (Value a) ps) none ∙ ap (λ w. option_map (λ form. form ++ rest) (option_map long_of w)) e

    by_word : (o : Option (List ℕ)) → long_word a ≡ o → (k ≡ i) ⊎ (is_some (long_word a) ≡ true) → Outcome i j (Value a ∷ ps)
    by_word (Some word) e kept =
        let form = is_long a word e in
        long (long_of word ++ rest) (spelled (Some word) e) (omega arith) (braced_runs j (long_of word) rest form.braced ∙ ap₂ (λ s t. s && t) form.line g)
    by_word None e (inl same) = late (sym same ∙ out) inside (spelled None e) (short_runs (spelled_attribute a) rest false (own_short a plain) ∙ g)
    by_word None e (inr some) = absurd (let f : false ≡ true = sym (ap is_some e) ∙ some in cc)

-- an attribute with a name, behind which no brace is open
named_more : (a : Attribute) (ps : List Piece) (i j : Bool) → IsBraced (spelled_attribute a) → is_one_line (spelled_attribute a) ≡ true → Outcome false false ps → Outcome i j (Value a ∷ ps)
named_more a ps i j form line (short g) = short (braced_runs j (spelled_attribute a) (spelled_template ps) form ∙ ap₂ (λ s t. s && t) line g)
named_more a ps i j form line (long later is some g) =
    long (spelled_attribute a ++ later) (long_before (Value a) ps later is) (longer (spelled_attribute a) later some) (braced_runs j (spelled_attribute a) later form ∙ ap₂ (λ s t. s && t) line g)
named_more a ps i j form line (late out inside none g) = absurd (cc)

closed_beside : (j : Bool) → IsBeside false j
closed_beside true = inr refl
closed_beside false = inl refl

-- ALL PIECES

compared : (ps : List Piece) (text : List ℕ) (i j : Bool) → Spells text ps → IsBeside i j → are_pieces i text [] ≡ true → Outcome i j ps
compared [] text i j e beside w = by_states i j (sym (ap (λ k. are_pieces i k []) e) ∙ w)
  where
    by_states : (i j : Bool) → not i ≡ true → Outcome i j []
    by_states true j f = absurd (cc)
    by_states false true f = late refl refl refl refl
    by_states false false f = short refl
compared (Literal bytes ∷ ps) text i j (after, e, some, free, bare, h) beside w =
    let front = spelled_piece (Literal bytes) in
    by_scan (scan i front) refl (sym (scan_runs i front after (apart_behind after ps h bare)) ∙ sym (ap (λ k. are_pieces i k []) e) ∙ w) (λ k l next f. compared ps after k l h next f)
  where
    by_scan : (o : Option Bool) → scan i (spelled_piece (Literal bytes)) ≡ o → goes_on o after ≡ true →
        ((k l : Bool) → IsBeside k l → are_pieces k after [] ≡ true → Outcome k l ps) → Outcome i j (Literal bytes ∷ ps)
    by_scan None f g more = absurd (cc)
    by_scan (Some k) f g more =
        let s = scan_beside (spelled_piece (Literal bytes)) i j k beside f in literal_more bytes ps after i j k s.0 h bare beside f s.1 (more k s.0 s.2 g)
compared (Value a ∷ ps) text i j (spelled, after, e, form, h) beside w =
    by_view (form_view a spelled form) (sym (ap (λ k. are_pieces i k []) e) ∙ w) (λ k l next f. compared ps after k l h next f)
  where
    by_view : FormIs a spelled → are_pieces i (spelled ++ after) [] ≡ true → ((k l : Bool) → IsBeside k l → are_pieces k after [] ≡ true → Outcome k l ps) → Outcome i j (Value a ∷ ps)
    by_view (of_letter plain same) f more =
        plain_more a ps i j i plain (inl refl) (more i j beside (sym (short_runs (spelled_attribute a) after i (own_short a plain)) ∙ sym (ap (λ k. are_pieces i (k ++ after) []) same) ∙ f))
    by_view (of_word plain some closes) f more =
        let s = and_parts (is_one_line spelled) (are_pieces false after []) (sym (braced_runs i spelled after closes) ∙ f) in
        plain_more a ps i j false plain (inr some) (more false j (closed_beside j) s.1)
    by_view (of_name named line closes) f more =
        let s = and_parts (is_one_line spelled) (are_pieces false after []) (sym (braced_runs i spelled after closes) ∙ f) in
        named_more a ps i j (own_braced a spelled named form) (own_line a named (line s.0)) (more false false (inl refl) s.1)

-- THE LAST BYTE

last_same : (bytes : List ℕ) (b c : ℕ) → (b == 92) ≡ (c == 92) → (last_byte b bytes == 92) ≡ (last_byte c bytes == 92)
last_same [] b c e = e
last_same (x ∷ bytes) b c e = refl

last_behind : (before : ℕ) (front rest : List ℕ) → (last_byte before (front ++ rest) == 92) ≡ (last_byte (last_byte before front) rest == 92)
last_behind before front rest = ap (λ k. k == 92) (last_append before front rest)

-- the text ends with a backslash where the short forms do
ends_same : (ps : List Piece) (text : List ℕ) (b c : ℕ) → Spells text ps → (b == 92) ≡ (c == 92) → (last_byte b text == 92) ≡ (last_byte c (spelled_template ps) == 92)
ends_same [] text b c e same = ap (λ k. last_byte b k == 92) e ∙ same
ends_same (Literal bytes ∷ ps) text b c (after, e, some, free, bare, h) same =
    let front = spelled_piece (Literal bytes) in
    ap (λ k. last_byte b k == 92) e ∙ last_behind b front after ∙ ends_same ps after (last_byte b front) (last_byte c front) h (last_same front b c same)
    ∙ sym (last_behind c front (spelled_template ps))
ends_same (Value a ∷ ps) text b c (spelled, after, e, form, h) same =
    let own = spelled_attribute a in
    let none : (last_byte b spelled == 92) ≡ (last_byte c own == 92) = form_ends a spelled b form ∙ sym (form_ends a own c (own_form a spelled form)) in
    ap (λ k. last_byte b k == 92) e ∙ last_behind b spelled after ∙ ends_same ps after (last_byte b spelled) (last_byte c own) h none ∙ sym (last_behind c own (spelled_template ps))

-- THE WRITTEN FORM

word_runs : (text : List ℕ) → is_word text ≡ true → are_pieces false text [] ≡ true
word_runs [] e = absurd (cc)
word_runs (b ∷ text) e = e

runs_word : (text : List ℕ) → 0 < length text → are_pieces false text [] ≡ true → is_word text ≡ true
runs_word [] some e = absurd (omega (arith, some))
runs_word (b ∷ text) some e = e

abbrev IsAgain : List Piece → List ℕ → Type 0
IsAgain t spelled = IsFine spelled × (template_of spelled ≡ Ok t)

-- what can be quoted is fine
quotable : (spelled : List ℕ) → is_unquotable spelled ≡ false → IsFine spelled
quotable spelled e = by_word (is_word spelled) refl e
  where
    by_word : (t : Bool) → is_word spelled ≡ t → (not t && last_byte 0 spelled == 92) ≡ false → IsFine spelled
    by_word true f g = inl f
    by_word false f g = inr (last_same spelled 39 0 refl ∙ g)

-- a Word of the text's own, whose short forms are none
long_again : (text : List ℕ) (t : List Piece) → Spells text t → is_word text ≡ true → is_word (spelled_template t) ≡ false → (last_byte 0 (spelled_template t) == 92) ≡ true →
    (spelled : List ℕ) × (spelled_long t ≡ Some spelled) × IsAgain t spelled
long_again text t s word none ends = by_outcome (compared t text false false s (inl refl) (word_runs text word))
  where
    some_bytes : (bytes : List ℕ) → (last_byte 0 bytes == 92) ≡ true → 0 < length bytes
    some_bytes [] e = absurd (cc)
    some_bytes (b ∷ bytes) e = omega arith

    by_outcome : Outcome false false t → (spelled : List ℕ) × (spelled_long t ≡ Some spelled) × IsAgain t spelled
    by_outcome (short g) = absurd (let f : false ≡ true = sym none ∙ runs_word (spelled_template t) (some_bytes (spelled_template t) ends) g in cc)
    by_outcome (long spelled is some g) = (spelled, is, (inl (runs_word spelled some g), (templates_are_spelled spelled t).1 (long_spells t text spelled s is)))
    by_outcome (late out inside alone g) = absurd (cc)

-- what is written of a template that some text has can be printed, and is read as the template
pub written_again : (text : List ℕ) (t : List Piece) → IsFine text → template_of text ≡ Ok t → IsFine (written_template t) × (template_of (written_template t) ≡ Ok t)
written_again text t fine reads = by_test (is_unquotable (spelled_template t)) refl
  where
    own : List ℕ
    own = spelled_template t

    spells : Spells text t
    spells = (templates_are_spelled text t).0 reads

    chosen : (c : Bool) → is_unquotable own ≡ c → (if c then unwrap_or (spelled_long t) own else own) ≡ written_template t
    chosen c e = ap (λ k. if k then unwrap_or (spelled_long t) own else own) (sym e)

    is_text_word : (last_byte 0 own == 92) ≡ true → IsFine text → is_word text ≡ true
    is_text_word ends (inl word) = word
    is_text_word ends (inr other) = absurd (let f : false ≡ true = sym other ∙ ends_same t text 39 0 spells refl ∙ ends in cc)

    by_test : (c : Bool) → is_unquotable own ≡ c → IsAgain t (written_template t)
    by_test false e = subst (IsAgain t) (chosen false e) (quotable own e, (templates_are_spelled own t).1 (spells_again text t spells))
    by_test true e =
        let h = and_parts (not (is_word own)) (last_byte 0 own == 92) e in
        let l = long_again text t spells (is_text_word h.1 fine) (not_true (is_word own) h.0) h.1 in
        subst (IsAgain t) (sym (ap (λ o. unwrap_or o own) l.1) ∙ chosen true e) l.2
