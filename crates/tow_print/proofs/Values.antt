-- Printed values, pairs and calls are those of the grammar.
use Rattle.std.specs.Prelude.{◌≡◌, ℕ, ◌+◌, true, false, List, [], ◌∷◌, ◌++◌, length, map, codes, IsTrue}
use Rattle.std.specs.List.{list_all}
use Rattle.std.proofs.Common.{refl, sym, ap, ◌∙◌, arith, subst, append_assoc}
use mathlib.Core.Logic.{inl, inr}
use Rattle.tow_language.specs.Tokens.{is_white}
use Rattle.tow_language.specs.Raw.{Written, RawValue, one, array, unnamed, named, RawCall}
use Rattle.tow_language.specs.Grammar.{WordThen, TextThen, Commas, ValueThen, PairThen, BracketsThen, is_reserved, CallThen}
use Rattle.tow_language.specs.Printed.{is_word, printed_text, joined_by, printed_array}
use Rattle.tow_print.proofs.Marks.{comma_shown, equals_shown, placed_brace_shown, close_brace_shown, comma_ends, brace_ends}
use Rattle.tow_print.proofs.Predicates.{open_shown, close_shown, round_ends}
use Rattle.tow_print.proofs.Shown.{Shown, shown_then, shown_as}
use Rattle.tow_print.proofs.Texts.{IsEnd, IsFine, written, word_ends, word_shown, text_shown}

abbrev pub AreFine : List (List ℕ) → Type 0
AreFine [] = Unit {0}
AreFine (b ∷ bs) = IsFine b × AreFine bs

-- texts with commas between
record Row (bs : List (List ℕ)) (printed : List ℕ) (at : ℕ) (gap after : List ℕ) : Type 1 where
  first : Written
  others : List Written
  shown : Shown at (gap ++ (printed ++ after)) after (λ n. n) (Commas TextThen (first ∷ others))
  are : map (λ (w : Written). w.bytes) (first ∷ others) ≡ bs

row_shown : (b : List ℕ) (bs : List (List ℕ)) → IsFine b → AreFine bs → (at : ℕ) (gap after : List ℕ) → IsTrue (list_all is_white gap) → IsEnd after →
    Row (b ∷ bs) (joined_by (codes ", ") (map printed_text (b ∷ bs))) at gap after
row_shown b [] fine are at gap after white end = record {
  first = written b (at + length gap);
  others = [];
  shown = text_shown at gap b after white end fine;
  are = refl;
}
row_shown b (c ∷ bs) fine are at gap after white end =
    let R = joined_by (codes ", ") (map printed_text (c ∷ bs)) in
    let a = text_shown at gap b (codes ", " ++ (R ++ after)) white (comma_ends _) fine in
    let k = comma_shown a.end [] (codes " " ++ (R ++ after)) refl in
    let d = row_shown c bs are.0 are.1 k.end (codes " ") after refl end in
    record {
      first = written b (at + length gap);
      others = d.first ∷ d.others;
      shown = subst (λ (s : List ℕ). Shown at (gap ++ s) after (λ n. n) (Commas TextThen (written b (at + length gap) ∷ d.first ∷ d.others))) (sym (append_assoc (printed_text b) (codes ", " ++ R) after))
          (shown_then a (shown_then k d.shown));
      are = ap (λ xs. b ∷ xs) d.are;
    }

-- a printed value that is read as one of which P holds
pub record ValueBack (P : RawValue → Type 0) (printed : List ℕ) (at : ℕ) (gap after : List ℕ) : Type 1 where
  pub value : RawValue
  pub shown : Shown at (gap ++ (printed ++ after)) after (λ n. n) (ValueThen value)
  pub holds : P value

abbrev pub ValueReads : (RawValue → Type 0) → List ℕ → Type 1
ValueReads P printed = (at : ℕ) (gap after : List ℕ) → IsTrue (list_all is_white gap) → IsEnd after → ValueBack P printed at gap after

-- one text with these bytes
abbrev pub IsOne : List ℕ → RawValue → Type 0
IsOne b v = (place : ℕ) × (v ≡ one (written b place))

-- an array of these texts
abbrev pub IsArray : List (List ℕ) → RawValue → Type 0
IsArray bs v = (place : ℕ) × (ws : List Written) × (v ≡ array place ws) × (map (λ (w : Written). w.bytes) ws ≡ bs)

pub text_reads : (b : List ℕ) → IsFine b → ValueReads (IsOne b) (printed_text b)
text_reads b fine at gap after white end = record {
  value = one (written b (at + length gap));
  shown = text_shown at gap b after white end fine;
  holds = (at + length gap, refl);
}

-- bytes that are printed as they are, which are one Word
pub word_reads : (b : List ℕ) → is_word b ≡ true → ValueReads (IsOne b) b
word_reads b e at gap after white end = record {
  value = one (written b (at + length gap));
  shown = shown_as (λ n. refl) (λ L xs f. inl f) (word_shown at gap b after white (word_ends b after end e));
  holds = (at + length gap, refl);
}

pub array_reads : (b : List ℕ) (bs : List (List ℕ)) → AreFine (b ∷ bs) → ValueReads (IsArray (b ∷ bs)) (printed_array (map printed_text (b ∷ bs)))
array_reads b bs fine at gap after white end =
    let R = joined_by (codes ", ") (map printed_text (b ∷ bs)) in
    let o = placed_brace_shown at gap (R ++ (codes "}" ++ after)) white in
    let a = row_shown b bs fine.0 fine.1 o.end [] (codes "}" ++ after) refl (brace_ends _) in
    let c = close_brace_shown a.shown.end [] after refl in
    record {
      value = array (at + length gap) (a.first ∷ a.others);
      shown = subst (λ (s : List ℕ). Shown at (gap ++ (123 ∷ s)) after (λ n. n) (ValueThen (array (at + length gap) (a.first ∷ a.others)))) (sym (append_assoc R (codes "}") after))
          (shown_then o (shown_then a.shown c));
      holds = (at + length gap, a.first ∷ a.others, refl, a.are);
    }

-- a name, `=` and a value
record PairBack (P : RawValue → Type 0) (name printed : List ℕ) (at : ℕ) (gap after : List ℕ) : Type 1 where
  place : ℕ
  value : RawValue
  shown : Shown at (gap ++ ((name ++ (codes "=" ++ printed)) ++ after)) after (λ n. n) (PairThen (written name place, value))
  holds : P value

equals_ends : (xs : List ℕ) → IsEnd (61 ∷ xs)
equals_ends xs = record { no_arrow = refl; no_brace = refl; dark = refl }

open_ends : (xs : List ℕ) → IsEnd (40 ∷ xs)
open_ends xs = record { no_arrow = refl; no_brace = refl; dark = refl }

pair_reads : (P : RawValue → Type 0) (name printed : List ℕ) → is_word name ≡ true → ValueReads P printed → (at : ℕ) (gap after : List ℕ) → IsTrue (list_all is_white gap) → IsEnd after →
    PairBack P name printed at gap after
pair_reads P name printed is reads at gap after white end =
    let w = word_shown at gap name (codes "=" ++ (printed ++ after)) white (word_ends name _ (equals_ends _) is) in
    let e = equals_shown w.end [] (printed ++ after) refl in
    let v = reads e.end [] after refl end in
    record {
      place = at + length gap;
      value = v.value;
      shown = subst (λ (s : List ℕ). Shown at (gap ++ s) after (λ n. n) (PairThen (written name (at + length gap), v.value))) (sym (append_assoc name (codes "=" ++ printed) after))
          (shown_then w (shown_then e v.shown));
      holds = v.holds;
    }

-- a call without parameters
pub record BareBack (name : List ℕ) (at : ℕ) (gap after : List ℕ) : Type 1 where
  pub place : ℕ
  pub shown : Shown at (gap ++ (name ++ after)) after (λ n. n) (CallThen (record { name = written name place; parameters = unnamed [] }))

pub bare_reads : (name : List ℕ) → is_word name ≡ true → is_reserved name ≡ false → (at : ℕ) (gap after : List ℕ) → IsTrue (list_all is_white gap) → IsEnd after → BareBack name at gap after
bare_reads name is free at gap after white end = record {
  place = at + length gap;
  shown = shown_as (λ n. refl) (λ L xs f. (free, f)) (bare_before (word_shown at gap name after white (word_ends name after end is)));
}
  where
    bare_before : Shown at (gap ++ (name ++ after)) after (λ n. n) (WordThen (written name (at + length gap))) →
        Shown at (gap ++ (name ++ after)) after (λ n. n) (λ L. WordThen (written name (at + length gap)) (BracketsThen (unnamed []) L))
    bare_before a = record { symbols = a.symbols; end = a.end; show = a.show; kept = a.kept; form = λ L rest l. a.form (BracketsThen (unnamed []) L) rest (inl (refl, l)) }

-- pairs with commas between, of whose values P holds
pub record PairsBack (P : List (Written × RawValue) → Type 0) (printed : List ℕ) (at : ℕ) (after : List ℕ) : Type 1 where
  pub first : Written × RawValue
  pub others : List (Written × RawValue)
  pub shown : Shown at (printed ++ after) after (λ n. n) (Commas PairThen (first ∷ others))
  pub holds : P (first ∷ others)

abbrev pub PairsRead : (List (Written × RawValue) → Type 0) → List ℕ → Type 1
PairsRead P printed = (at : ℕ) (after : List ℕ) → IsEnd after → PairsBack P printed at after

-- the pairs have these names, and of their values P, Q and R hold
abbrev pub IsPair : List ℕ → (RawValue → Type 0) → List (Written × RawValue) → Type 0
IsPair name P ps = (place : ℕ) × (v : RawValue) × (ps ≡ (written name place, v) ∷ []) × P v

abbrev pub ArePairs : List ℕ → (RawValue → Type 0) → List ℕ → (RawValue → Type 0) → List (Written × RawValue) → Type 0
ArePairs name P other Q ps = (place elsewhere : ℕ) × (v w : RawValue) × (ps ≡ (written name place, v) ∷ (written other elsewhere, w) ∷ []) × P v × Q w

abbrev pub AreThreePairs : List ℕ → (RawValue → Type 0) → List ℕ → (RawValue → Type 0) → List ℕ → (RawValue → Type 0) → List (Written × RawValue) → Type 0
AreThreePairs name P other Q last R ps =
    (i j k : ℕ) × (v w x : RawValue) × (ps ≡ (written name i, v) ∷ (written other j, w) ∷ (written last k, x) ∷ []) × P v × Q w × R x

pub one_pair : (P : RawValue → Type 0) (name printed : List ℕ) → is_word name ≡ true → ValueReads P printed → PairsRead (IsPair name P) (name ++ (codes "=" ++ printed))
one_pair P name printed is reads at after end =
    let a = pair_reads P name printed is reads at [] after refl end in
    record { first = (written name a.place, a.value); others = []; shown = a.shown; holds = (a.place, a.value, refl, a.holds) }

pub two_pairs : (P Q : RawValue → Type 0) (name other printed shown_so : List ℕ) → is_word name ≡ true → is_word other ≡ true → ValueReads P printed → ValueReads Q shown_so →
    PairsRead (ArePairs name P other Q) ((name ++ (codes "=" ++ printed)) ++ (codes ", " ++ (other ++ (codes "=" ++ shown_so))))
two_pairs P Q name other printed shown_so is so reads reads_so at after end =
    let X = name ++ (codes "=" ++ printed) in let Y = other ++ (codes "=" ++ shown_so) in
    let a = pair_reads P name printed is reads at [] (codes ", " ++ (Y ++ after)) refl (comma_ends _) in
    let k = comma_shown a.shown.end [] (codes " " ++ (Y ++ after)) refl in
    let b = pair_reads Q other shown_so so reads_so k.end (codes " ") after refl end in
    record {
      first = (written name a.place, a.value);
      others = (written other b.place, b.value) ∷ [];
      shown = subst (λ (s : List ℕ). Shown at s after (λ n. n) (Commas PairThen ((written name a.place, a.value) ∷ (written other b.place, b.value) ∷ []))) (sym (append_assoc X (codes ", " ++ Y) after))
          (shown_then a.shown (shown_then k b.shown));
      holds = (a.place, b.place, a.value, b.value, refl, a.holds, b.holds);
    }

pub three_pairs : (P Q R : RawValue → Type 0) (name other last printed shown_so ends_so : List ℕ) → is_word name ≡ true → is_word other ≡ true → is_word last ≡ true →
    ValueReads P printed → ValueReads Q shown_so → ValueReads R ends_so →
    PairsRead (AreThreePairs name P other Q last R)
    ((name ++ (codes "=" ++ printed)) ++ (codes ", " ++ ((other ++ (codes "=" ++ shown_so)) ++ (codes ", " ++ (last ++ (codes "=" ++ ends_so))))))
three_pairs P Q R name other last printed shown_so ends_so is so ends reads reads_so reads_end at after end =
    let X = name ++ (codes "=" ++ printed) in let Y = other ++ (codes "=" ++ shown_so) in let Z = last ++ (codes "=" ++ ends_so) in
    let a = pair_reads P name printed is reads at [] (codes ", " ++ (Y ++ (codes ", " ++ (Z ++ after)))) refl (comma_ends _) in
    let k = comma_shown a.shown.end [] (codes " " ++ (Y ++ (codes ", " ++ (Z ++ after)))) refl in
    let b = pair_reads Q other shown_so so reads_so k.end (codes " ") (codes ", " ++ (Z ++ after)) refl (comma_ends _) in
    let h = comma_shown b.shown.end [] (codes " " ++ (Z ++ after)) refl in
    let c = pair_reads R last ends_so ends reads_end h.end (codes " ") after refl end in
    record {
      first = (written name a.place, a.value);
      others = (written other b.place, b.value) ∷ (written last c.place, c.value) ∷ [];
      shown = subst (λ (s : List ℕ). Shown at s after (λ n. n) (Commas PairThen ((written name a.place, a.value) ∷ (written other b.place, b.value) ∷ (written last c.place, c.value) ∷ [])))
          (sym (append_assoc X (codes ", " ++ (Y ++ (codes ", " ++ Z))) after ∙ ap (λ s. X ++ (codes ", " ++ s)) (append_assoc Y (codes ", " ++ Z) after)))
          (shown_then a.shown (shown_then k (shown_then b.shown (shown_then h c.shown))));
      holds = (a.place, b.place, c.place, a.value, b.value, c.value, refl, a.holds, b.holds, c.holds);
    }

-- a call with parameters
pub record CallBack (P : List (Written × RawValue) → Type 0) (name printed : List ℕ) (at : ℕ) (gap after : List ℕ) : Type 1 where
  pub place : ℕ
  pub pairs : List (Written × RawValue)
  pub shown : Shown at (gap ++ ((name ++ (codes "(" ++ (printed ++ codes ")"))) ++ after)) after (λ n. n) (CallThen (record { name = written name place; parameters = named pairs }))
  pub holds : P pairs

pub call_reads : (P : List (Written × RawValue) → Type 0) (name printed : List ℕ) → is_word name ≡ true → is_reserved name ≡ false → PairsRead P printed →
    (at : ℕ) (gap after : List ℕ) → IsTrue (list_all is_white gap) → IsEnd after → CallBack P name printed at gap after
call_reads P name printed is free reads at gap after white end =
    let w = word_shown at gap name (codes "(" ++ (printed ++ (codes ")" ++ after))) white (word_ends name _ (open_ends _) is) in
    let o = open_shown w.end [] (printed ++ (codes ")" ++ after)) refl in
    let a = reads o.end (codes ")" ++ after) (round_ends _) in
    let c = close_shown a.shown.end [] after refl in
    let call : RawCall = record { name = written name (at + length gap); parameters = named (a.first ∷ a.others) } in
    let inside = shown_as {G = λ L. BracketsThen (named (a.first ∷ a.others)) L} (λ n. omega arith) (λ L xs f. inr (inl f)) (shown_then o (shown_then a.shown c)) in
    record {
      place = at + length gap;
      pairs = a.first ∷ a.others;
      shown = subst (λ (s : List ℕ). Shown at (gap ++ s) after (λ n. n) (CallThen call))
          (sym (append_assoc name (codes "(" ++ (printed ++ codes ")")) after ∙ ap (λ k. name ++ (codes "(" ++ k)) (append_assoc printed (codes ")") after)))
          (shown_as {G = λ L. CallThen call L} (λ n. refl) (λ L xs f. (free, f)) (shown_then w inside));
      holds = a.holds;
    }
