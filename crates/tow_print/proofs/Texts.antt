-- A printed text is one token that stands for the text.
use Rattle.std.specs.Prelude.{◌≡◌, ◌⊎◌, ℕ, ◌+◌, ◌-◌, Bool, true, false, not, ◌&&◌, ◌||◌, ◌==◌, nat_le, List, [], ◌∷◌, ◌++◌, length, take, flat_map, codes, if◌then◌else◌, IsTrue}
use Rattle.std.specs.List.{list_all, list_any}
use Rattle.std.proofs.Common.{zero, suc, refl, sym, ap, ap₂, ◌∙◌, arith, length-append}
use Rattle.std.proofs.Math.Seq.{take-append_seam}
use Rattle.std.proofs.lemmas.Bool.{eqb-true}
use mathlib.Core.Logic.{inl, inr}
use Rattle.tow_language.specs.declared.token.TokenKind.{TokenKind}
use Rattle.tow_language.specs.declared.token.TokenKind.TheVariants.{Quoted, Word}
use Rattle.tow_language.specs.Tokens.{IsToken, IsWord, IsQuoted, is_white, next_is, begins_piece, opens_brace, are_pieces, no_piece, are_escaped, last_byte}
use Rattle.tow_language.specs.Symbols.{Sign, word, quoted, Symbol, sign_of, unescaped, joined}
use Rattle.tow_language.specs.Raw.{Written}
use Rattle.tow_language.specs.Grammar.{Rest, Keyword, WordThen, TextThen}
use Rattle.tow_language.specs.Printed.{is_word, printed_text}
use Rattle.tow_print.specs.Words.{quoted_byte}
use Rattle.tow_print.proofs.Shown.{Shown}

-- what may follow a text in the printed form: nothing that a word goes on with
pub record IsEnd (after : List ℕ) : Type 0 where
  pub no_arrow : next_is 62 after ≡ false
  pub no_brace : next_is 123 after ≡ false
  pub dark : no_piece after ≡ true

next_same : (c : ℕ) (bs after : List ℕ) → next_is c after ≡ false → next_is c (bs ++ after) ≡ next_is c (bs ++ [])
next_same c [] after e = e
next_same c (b ∷ bs) after e = refl

pub pieces_end : (inside : Bool) (bs after : List ℕ) → IsEnd after → are_pieces inside bs after ≡ are_pieces inside bs []
pieces_end inside [] after end = refl
pieces_end true (b ∷ bs) after end = ap (λ t. not (b == 10) && t) (pieces_end (not (b == 125)) bs after end)
pieces_end false (b ∷ bs) after end =
    ap₂ (λ s t. s && t) (begins b bs after end) (pieces_end (opens_brace b (bs ++ after)) bs after end ∙ ap (λ t. are_pieces t bs []) (opens b bs after end))
  where
    begins : (b : ℕ) (bs after : List ℕ) → IsEnd after → begins_piece b (bs ++ after) ≡ begins_piece b (bs ++ [])
    begins b bs after end =
        ap (λ t. (nat_le 33 b && nat_le b 126) && not (list_any (λ c. c == b) (codes "()[]{},=;'\"")) && not (b == 45 && t)) (next_same 62 bs after end.no_arrow)

    opens : (b : ℕ) (bs after : List ℕ) → IsEnd after → opens_brace b (bs ++ after) ≡ opens_brace b (bs ++ [])
    opens b bs after end = ap (λ t. (b == 37 || b == 36) && t) (next_same 123 bs after end.no_brace)

pub word_ends : (bs after : List ℕ) → IsEnd after → is_word bs ≡ true → IsWord bs after
word_ends [] after end e = absurd (let f : false ≡ true = e in cc)
word_ends (b ∷ bs) after end e = (omega arith, pieces_end false (b ∷ bs) after end ∙ e, end.dark)

-- no escaped bytes begin with a quote
quote_not_first : (bs : List ℕ) → next_is 39 (flat_map quoted_byte bs) ≡ false
quote_not_first [] = refl
quote_not_first (b ∷ bs) = by_test (b == 39) refl
  where
    by_test : (t : Bool) → (b == 39) ≡ t → next_is 39 ((if t then codes "\\'" else b ∷ []) ++ flat_map quoted_byte bs) ≡ false
    by_test true e = refl
    by_test false e = e

pub unescaped_is : (bs : List ℕ) → unescaped 39 (flat_map quoted_byte bs) ≡ bs
unescaped_is [] = refl
unescaped_is (b ∷ bs) = by_test (unescaped_is bs) (b == 39) refl
  where
    plain : unescaped 39 (flat_map quoted_byte bs) ≡ bs → (t : Bool) → (b == 92) ≡ t → (if t && next_is 39 (flat_map quoted_byte bs) then unescaped 39 (flat_map quoted_byte bs) else b ∷ unescaped 39 (flat_map quoted_byte bs)) ≡ b ∷ bs
    plain h true e = ap (λ t. if t then unescaped 39 (flat_map quoted_byte bs) else b ∷ unescaped 39 (flat_map quoted_byte bs)) (quote_not_first bs) ∙ ap (λ k. b ∷ k) h
    plain h false e = ap (λ k. b ∷ k) h

    by_test : unescaped 39 (flat_map quoted_byte bs) ≡ bs → (t : Bool) → (b == 39) ≡ t → unescaped 39 ((if t then codes "\\'" else b ∷ []) ++ flat_map quoted_byte bs) ≡ b ∷ bs
    by_test h true e = ap₂ (λ x xs. x ∷ xs) (sym (eqb-true b 39 e)) h
    by_test h false e = plain h (b == 92) refl

pub escaped_are : (before : ℕ) (bs : List ℕ) → are_escaped 39 before (flat_map quoted_byte bs) ≡ true
escaped_are before [] = refl
escaped_are before (b ∷ bs) = by_test (escaped_are 39 bs) (escaped_are b bs) (b == 39) refl
  where
    by_test : are_escaped 39 39 (flat_map quoted_byte bs) ≡ true → are_escaped 39 b (flat_map quoted_byte bs) ≡ true → (t : Bool) → (b == 39) ≡ t → are_escaped 39 before ((if t then codes "\\'" else b ∷ []) ++ flat_map quoted_byte bs) ≡ true
    by_test g h true e = g
    by_test g h false e = ap (λ t. (not t || before == 92) && are_escaped 39 b (flat_map quoted_byte bs)) e ∙ h

pub last_escaped : (before : ℕ) (bs : List ℕ) → last_byte before (flat_map quoted_byte bs) ≡ last_byte before bs
last_escaped before [] = refl
last_escaped before (b ∷ bs) = by_test (last_escaped 39 bs) (last_escaped b bs) (b == 39) refl
  where
    by_test : last_byte 39 (flat_map quoted_byte bs) ≡ last_byte 39 bs → last_byte b (flat_map quoted_byte bs) ≡ last_byte b bs → (t : Bool) → (b == 39) ≡ t → last_byte before ((if t then codes "\\'" else b ∷ []) ++ flat_map quoted_byte bs) ≡ last_byte b bs
    by_test g h true e = g ∙ ap (λ k. last_byte k bs) (sym (eqb-true b 39 e))
    by_test g h false e = h

but_last_is : (xs : List ℕ) (x : ℕ) → take (length (xs ++ x ∷ []) - 1) (xs ++ x ∷ []) ≡ xs
but_last_is xs x = ap (λ n. take n (xs ++ x ∷ [])) {x = length (xs ++ x ∷ []) - 1} {y = length xs} (omega (arith, length-append xs (x ∷ []))) ∙ take-append_seam xs (x ∷ [])

-- in quotes a text that ends with no backslash stands for itself
pub quoted_is : (bs : List ℕ) → (last_byte 39 bs == 92) ≡ false → IsQuoted (codes "'" ++ (flat_map quoted_byte bs ++ codes "'"))
quoted_is bs e = (39, flat_map quoted_byte bs, refl, refl, escaped_are 39 bs, ap (λ b. b == 92) (last_escaped 39 bs) ∙ e)

pub quoted_sign : (bs : List ℕ) → sign_of Quoted (codes "'" ++ (flat_map quoted_byte bs ++ codes "'")) ≡ quoted bs
quoted_sign bs = ap quoted (ap (unescaped 39) (but_last_is (flat_map quoted_byte bs) 39) ∙ unescaped_is bs)

-- one token
pub one_shown : (kind : TokenKind) (at : ℕ) (gap spelled after : List ℕ) (s : Sign) (depth : ℕ → ℕ) (F : Rest → Rest) → IsTrue (list_all is_white gap) → IsToken kind spelled after → sign_of kind spelled ≡ s →
    ((n : ℕ) (rest : List Symbol) → joined n (record { sign = s; place = at + length gap } ∷ rest) ≡ record { sign = s; place = at + length gap } ∷ joined (depth n) rest) →
    ((L : Rest) (rest : List Symbol) → L rest → F L (record { sign = s; place = at + length gap } ∷ rest)) →
    Shown at (gap ++ (spelled ++ after)) after depth F
one_shown kind at gap spelled after s depth F white token e kept form = record {
  symbols = record { sign = s; place = at + length gap } ∷ [];
  end = at + length gap + length spelled;
  show = (kind, gap, spelled, after, refl, white, ap (λ (k : Sign). let x : Symbol = record { sign = k; place = at + length gap } in x) (sym e), token, (refl, refl));
  kept = kept;
  form = form;
}

word_kept : (bs : List ℕ) (place n : ℕ) (rest : List Symbol) → joined n (record { sign = word bs; place = place } ∷ rest) ≡ record { sign = word bs; place = place } ∷ joined n rest
word_kept bs place zero rest = refl
word_kept bs place (suc n) rest = refl

quoted_kept : (bs : List ℕ) (place n : ℕ) (rest : List Symbol) → joined n (record { sign = quoted bs; place = place } ∷ rest) ≡ record { sign = quoted bs; place = place } ∷ joined n rest
quoted_kept bs place zero rest = refl
quoted_kept bs place (suc n) rest = refl

abbrev pub written : List ℕ → ℕ → Written
written bytes place = record { bytes = bytes; place = place }

pub word_shown : (at : ℕ) (gap bs after : List ℕ) → IsTrue (list_all is_white gap) → IsWord bs after → Shown at (gap ++ (bs ++ after)) after (λ n. n) (WordThen (written bs (at + length gap)))
word_shown at gap bs after white is = one_shown Word at gap bs after (word bs) (λ n. n) _ white is refl (λ n rest. word_kept bs _ n rest) (λ L rest l. (refl, refl, l))

pub keyword_shown : (at : ℕ) (gap bs after : List ℕ) → IsTrue (list_all is_white gap) → IsWord bs after → Shown at (gap ++ (bs ++ after)) after (λ n. n) (Keyword bs)
keyword_shown at gap bs after white is = one_shown Word at gap bs after (word bs) (λ n. n) _ white is refl (λ n rest. word_kept bs _ n rest) (λ L rest l. (refl, l))

-- a text that can be printed: one Word, or one that ends with no backslash
abbrev pub IsFine : List ℕ → Type 0
IsFine bs = (is_word bs ≡ true) ⊎ ((last_byte 39 bs == 92) ≡ false)

pub text_shown : (at : ℕ) (gap bs after : List ℕ) → IsTrue (list_all is_white gap) → IsEnd after → IsFine bs →
    Shown at (gap ++ (printed_text bs ++ after)) after (λ n. n) (TextThen (written bs (at + length gap)))
text_shown at gap bs after white end fine = by_test (is_word bs) refl
  where
    -- not a Word, so it ends with no backslash
    ends : (t : Bool) → is_word bs ≡ t → t ≡ false → IsFine bs → (last_byte 39 bs == 92) ≡ false
    ends t e f (inl g) = absurd (let h : true ≡ false = sym g ∙ e ∙ f in cc)
    ends t e f (inr g) = g

    by_test : (t : Bool) → is_word bs ≡ t →
        Shown at (gap ++ ((if t then bs else codes "'" ++ (flat_map quoted_byte bs ++ codes "'")) ++ after)) after (λ n. n) (TextThen (written bs (at + length gap)))
    by_test true e = one_shown Word at gap bs after (word bs) (λ n. n) _ white (word_ends bs after end e) refl (λ n rest. word_kept bs _ n rest) (λ L rest l. inl (refl, refl, l))
    by_test false e =
        one_shown Quoted at gap (codes "'" ++ (flat_map quoted_byte bs ++ codes "'")) after (quoted bs) (λ n. n) _ white (quoted_is bs (ends false e refl fine)) (quoted_sign bs)
        (λ n rest. quoted_kept bs _ n rest) (λ L rest l. inr (refl, refl, l))
