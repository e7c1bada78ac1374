-- The texts that a derivation holds: each is UTF-8, and is one Word or does not end with a backslash.
use Rattle.std.specs.Prelude.{◌≡◌, ℕ, ◌+◌, ◌-◌, ◌<◌, ◌==◌, Bool, true, false, not, ◌&&◌, ◌||◌, nat_le, List, [], ◌∷◌, ◌++◌, length, take, codes, slice_range, if◌then◌else◌, IsUtf8}
use Rattle.std.specs.List.{list_all, list_any}
use Rattle.std.specs.Char.{is_ascii}
use Rattle.std.proofs.Common.{zero, suc, refl, sym, ap, ap₂, ◌∙◌, arith, rules, subst, append_assoc, length-append}
use Rattle.std.proofs.Math.Bool.{and-false}
use Rattle.std.proofs.Math.Seq.{take-append_seam, drop-append_seam}
use Rattle.std.proofs.lemmas.Bool.{and_parts}
use Rattle.std.proofs.lemmas.Str.{IsUtf8-nil, IsUtf8-append}
use mathlib.Core.Logic.{inl, inr}
use Rattle.tow_language.specs.declared.token.Token.{Token}
use Rattle.tow_language.specs.declared.token.TokenKind.{TokenKind}
use Rattle.tow_language.specs.declared.token.TokenKind.TheVariants.{Newline, Semi, Comma, Equals, OpenRound, CloseRound, OpenSquare, CloseSquare, OpenBrace, CloseBrace, Arrow, Quoted, Word}
use Rattle.tow_language.specs.Tokens.{is_white, next_is, begins_piece, opens_brace, are_pieces, last_byte, IsQuoted, IsWord, IsToken, CutsUpTo}
use Rattle.tow_language.specs.Symbols.{Sign, word, quoted, mark, Symbol, unescaped, sign_of, open_after, symbols_of, joined}
use Rattle.tow_language.specs.Raw.{Written, RawValue, one, array, RawParameters, unnamed, named, RawCall, RawPredicate, alone, or_more, RawConjunction, single, and_more, RawFactor, test, negated, grouped, RawTarget, handler, restart, done, block, RawStatement, act, when, when_else, RawList, none, more}
use Rattle.tow_language.specs.Grammar.{Rest, AtEnd, Next, Mark, Keyword, Placed, TextThen, Commas, ValueThen, PairThen, ParametersThen, BracketsThen, CallThen, PredicateThen, ConjunctionThen, FactorThen, SeparatorsThen, MaybeArrow, ends_in_brace, Between, TargetThen, StatementThen, ListThen}
use Rattle.tow_language.specs.Syntax.{Reads}
use Rattle.tow_language.proofs.Cut.{quote_is}
use Rattle.tow_print.proofs.Predicates.{OfPredicate, OfConjunction, OfFactor}
use Rattle.tow_print.proofs.Statements.{OfTarget, OfStatement, OfList}
use Rattle.tow_print.proofs.Texts.{IsFine}
use Rattle.tow_print.proofs.Utf8.{utf8_before, utf8_uncons, utf8_behind, utf8_behind_ascii, utf8_cons, utf8_unescaped}

-- a text that can be printed, and is UTF-8
abbrev pub IsTextual : List ℕ → Type 0
IsTextual bytes = IsFine bytes × IsUtf8 bytes

-- P holds of each
abbrev pub OfEach : {A : Type 0} → (A → Type 0) → List A → Type 0
OfEach P [] = Unit {0}
OfEach P (x ∷ xs) = P x × OfEach P xs

abbrev pub AllTextual : List Written → Type 0
AllTextual = OfEach (λ (w : Written). IsTextual w.bytes)

abbrev pub TextualValue : RawValue → Type 0
TextualValue (one w) = IsTextual w.bytes
TextualValue (array place ws) = AllTextual ws

abbrev pub TextualValues : List RawValue → Type 0
TextualValues = OfEach TextualValue

abbrev pub TextualPairs : List (Written × RawValue) → Type 0
TextualPairs = OfEach (λ (p : Written × RawValue). TextualValue p.1)

abbrev pub TextualParameters : RawParameters → Type 0
TextualParameters (unnamed vs) = TextualValues vs
TextualParameters (named ps) = TextualPairs ps

-- each value that is written in the call is such a text
abbrev pub TextualCall : RawCall → Type 0
TextualCall c = TextualParameters c.parameters

-- what a sign stands for is such a text, where it stands for one
abbrev IsTextualSign : Sign → Type 0
IsTextualSign (word bytes) = IsTextual bytes
IsTextualSign (quoted bytes) = IsTextual bytes
IsTextualSign (mark kind) = Unit {0}

abbrev AreTexts : List Symbol → Type 0
AreTexts = OfEach (λ (x : Symbol). IsTextualSign x.sign)

-- behind white space
behind_gap : (gap after : List ℕ) → list_all is_white gap ≡ true → IsUtf8 (gap ++ after) → IsUtf8 after
behind_gap gap after white u = utf8_behind_ascii gap after (are_ascii gap white) u
  where
    white_small : (b : ℕ) → is_white b ≡ true → is_ascii b ≡ true
    white_small b e = search rules

    are_ascii : (gap : List ℕ) → list_all is_white gap ≡ true → list_all is_ascii gap ≡ true
    are_ascii [] e = refl
    are_ascii (b ∷ gap) e = let h = and_parts (is_white b) (list_all is_white gap) e in ap₂ (λ s t. s && t) (white_small b h.0) (are_ascii gap h.1)

-- a byte that begins a piece does so where nothing follows it
begins_alone : (b : ℕ) (after : List ℕ) → begins_piece b after ≡ true → begins_piece b [] ≡ true
begins_alone b after = without ((nat_le 33 b && nat_le b 126) && not (list_any (λ c. c == b) (codes "()[]{},=;'\""))) (b == 45) (next_is 62 after)
  where
    without : (x t u : Bool) → (x && not (t && u)) ≡ true → (x && not (t && false)) ≡ true
    without true true u e = refl
    without true false u e = refl
    without false t u e = e

-- a word is one where nothing follows it, too
word_alone : (inside : Bool) (bs after : List ℕ) → are_pieces inside bs after ≡ true → are_pieces inside bs [] ≡ true
word_alone inside [] after e = e
word_alone true (b ∷ bs) after e =
    let h = and_parts (not (b == 10)) (are_pieces (not (b == 125)) bs after) e in ap₂ (λ s t. s && t) h.0 (word_alone (not (b == 125)) bs after h.1)
word_alone false (b ∷ []) after e =
    let h = and_parts (begins_piece b after) (not (opens_brace b after)) e in ap₂ (λ s t. s && not t) (begins_alone b after h.0) (and-false (b == 37 || b == 36))
word_alone false (b ∷ c ∷ bs) after e =
    let h = and_parts (begins_piece b (c ∷ bs)) (are_pieces (opens_brace b (c ∷ bs)) (c ∷ bs) after) e in
    ap₂ (λ s t. s && t) h.0 (word_alone (opens_brace b (c ∷ bs)) (c ∷ bs) after h.1)

-- the last byte of pieces is of ASCII
record EndsAscii (bs : List ℕ) : Type 0 where
  front : List ℕ
  last : ℕ
  small : last < 128
  is : bs ≡ front ++ last ∷ []

longer : (b : ℕ) (bs : List ℕ) → EndsAscii bs → EndsAscii (b ∷ bs)
longer b bs e = record { front = b ∷ e.front; last = e.last; small = e.small; is = ap (λ k. b ∷ k) e.is }

pieces_last : (inside : Bool) (bs after : List ℕ) → are_pieces inside bs after ≡ true → 0 < length bs → EndsAscii bs
pieces_last inside [] after e some = absurd (omega (arith, some))
pieces_last true (b ∷ []) after e some =
    let h = and_parts (not (b == 10)) (not (not (b == 125))) e in record { front = []; last = b; small = closing b h.1; is = refl }
  where
    closing : (b : ℕ) → not (not (b == 125)) ≡ true → b < 128
    closing b f = search rules
pieces_last true (b ∷ c ∷ bs) after e some =
    let h = and_parts (not (b == 10)) (are_pieces (not (b == 125)) (c ∷ bs) after) e in longer b (c ∷ bs) (pieces_last (not (b == 125)) (c ∷ bs) after h.1 (omega arith))
pieces_last false (b ∷ []) after e some =
    let h = and_parts (begins_piece b after) (not (opens_brace b after)) e in record { front = []; last = b; small = visible b after h.0; is = refl }
  where
    visible : (b : ℕ) (after : List ℕ) → begins_piece b after ≡ true → b < 128
    visible b after f = search rules
pieces_last false (b ∷ c ∷ bs) after e some =
    let h = and_parts (begins_piece b (c ∷ bs)) (are_pieces (opens_brace b (c ∷ bs)) (c ∷ bs) after) e in
    longer b (c ∷ bs) (pieces_last (opens_brace b (c ∷ bs)) (c ∷ bs) after h.1 (omega arith))

-- what a token stands for, and what follows it
abbrev Parted : TokenKind → List ℕ → List ℕ → Type 0
Parted kind spelled after = IsTextualSign (sign_of kind spelled) × IsUtf8 after

word_parted : (spelled after : List ℕ) → IsWord spelled after → IsUtf8 (spelled ++ after) → Parted Word spelled after
word_parted [] after is u = absurd (let some = is.0 in omega (arith, some))
word_parted (b ∷ bs) after is u =
    let e = pieces_last false (b ∷ bs) after is.1 is.0 in
    let whole : IsUtf8 (e.front ++ e.last ∷ after) = subst IsUtf8 (ap (λ k. k ++ after) e.is ∙ append_assoc e.front (e.last ∷ []) after) u in
    let before : IsUtf8 e.front = utf8_before e.front e.last after e.small whole in
    let spelled : IsUtf8 (b ∷ bs) = subst IsUtf8 (sym e.is) (IsUtf8-append e.front (e.last ∷ []) before (utf8_cons e.last [] e.small IsUtf8-nil)) in
    ((inl (word_alone false (b ∷ bs) after is.1), spelled), utf8_behind e.front e.last after e.small whole)

-- the last byte stays where quotes lose their backslashes
last_unescaped : (q before : ℕ) (bs : List ℕ) → last_byte before (unescaped q bs) ≡ last_byte before bs
last_unescaped q before [] = refl
last_unescaped q before (b ∷ bs) = by_test (b == 92) (last_unescaped q before bs) (last_unescaped q b bs)
  where
    dropped : (bs : List ℕ) (t : Bool) → next_is q bs ≡ t → last_byte before (unescaped q bs) ≡ last_byte before bs → last_byte b (unescaped q bs) ≡ last_byte b bs →
        last_byte before (if t then unescaped q bs else b ∷ unescaped q bs) ≡ last_byte b bs
    dropped [] true e g h = absurd (let f : false ≡ true = e in cc)
    dropped (c ∷ cs) true e g h = g
    dropped bs false e g h = h

    by_test : (t : Bool) → last_byte before (unescaped q bs) ≡ last_byte before bs → last_byte b (unescaped q bs) ≡ last_byte b bs →
        last_byte before (if t && next_is q bs then unescaped q bs else b ∷ unescaped q bs) ≡ last_byte b bs
    by_test true g h = dropped bs (next_is q bs) refl g h
    by_test false g h = h

pub any_before : (q : ℕ) (bs : List ℕ) → (last_byte q bs == 92) ≡ false → (last_byte 39 bs == 92) ≡ false
any_before q [] e = refl
any_before q (b ∷ bs) e = e

quoted_parted : (spelled after : List ℕ) → IsQuoted spelled → IsUtf8 (spelled ++ after) → Parted Quoted spelled after
quoted_parted spelled after (q, inside, is, e, escaped, ends) u =
    let small : q < 128 = elim (quote_is q is) [ inl f ↦ omega (arith, f) | inr f ↦ omega (arith, f) ] in
    let whole : IsUtf8 (inside ++ q ∷ after) =
    utf8_uncons q (inside ++ q ∷ after) small (subst IsUtf8 (ap (λ k. k ++ after) e ∙ ap (λ k. q ∷ k) (append_assoc inside (q ∷ []) after)) u) in
    let within : take (length (inside ++ q ∷ []) - 1) (inside ++ q ∷ []) ≡ inside =
    ap (λ n. take n (inside ++ q ∷ [])) {x = length (inside ++ q ∷ []) - 1} {y = length inside} (omega (arith, length-append inside (q ∷ []))) ∙ take-append_seam inside (q ∷ []) in
    let sign : sign_of Quoted spelled ≡ quoted (unescaped q inside) = ap (sign_of Quoted) e ∙ ap (λ k. quoted (unescaped q k)) within in
    let textual : IsTextual (unescaped q inside) = (
      inr (any_before q (unescaped q inside) (ap (λ b. b == 92) (last_unescaped q q inside) ∙ ends)),
      utf8_unescaped q inside (utf8_before inside q after small whole),
    ) in
    (subst IsTextualSign (sym sign) textual, utf8_behind inside q after small whole)

behind_mark : (m spelled after : List ℕ) → list_all is_ascii m ≡ true → spelled ≡ m → IsUtf8 (spelled ++ after) → IsUtf8 after
behind_mark m spelled after small e u = utf8_behind_ascii m after small (subst (λ (k : List ℕ). IsUtf8 (k ++ after)) e u)

token_parted : (kind : TokenKind) (spelled after : List ℕ) → IsToken kind spelled after → IsUtf8 (spelled ++ after) → Parted kind spelled after
token_parted Newline spelled after e u = (tt, behind_mark (10 ∷ []) spelled after refl e u)
token_parted Semi spelled after e u = (tt, behind_mark (codes ";") spelled after refl e u)
token_parted Comma spelled after e u = (tt, behind_mark (codes ",") spelled after refl e u)
token_parted Equals spelled after e u = (tt, behind_mark (codes "=") spelled after refl e u)
token_parted OpenRound spelled after e u = (tt, behind_mark (codes "(") spelled after refl e u)
token_parted CloseRound spelled after e u = (tt, behind_mark (codes ")") spelled after refl e u)
token_parted OpenSquare spelled after e u = (tt, behind_mark (codes "[") spelled after refl e u)
token_parted CloseSquare spelled after e u = (tt, behind_mark (codes "]") spelled after refl e u)
token_parted OpenBrace spelled after e u = (tt, behind_mark (codes "{") spelled after refl e u)
token_parted CloseBrace spelled after e u = (tt, behind_mark (codes "}") spelled after refl e u)
token_parted Arrow spelled after e u = (tt, behind_mark (codes "->") spelled after refl e u)
token_parted Quoted spelled after e u = quoted_parted spelled after e u
token_parted Word spelled after e u = word_parted spelled after e u

-- the symbols of a text that is UTF-8
cut_texts : (text front bytes : List ℕ) (at : ℕ) (ts : List Token) (left : List ℕ) → text ≡ front ++ bytes → at ≡ length front → IsUtf8 bytes → CutsUpTo at bytes ts left →
    AreTexts (symbols_of text ts)
cut_texts text front bytes at [] left e f u h = tt
cut_texts text front bytes at (t ∷ ts) left e f u (gap, spelled, after, split, white, from, to, token, rest) =
    let whole : text ≡ (front ++ gap) ++ (spelled ++ after) = e ∙ ap (λ k. front ++ k) split ∙ sym (append_assoc front gap (spelled ++ after)) in
    let further : text ≡ ((front ++ gap) ++ spelled) ++ after = whole ∙ sym (append_assoc (front ++ gap) spelled after) in
    let here : t.from ≡ length (front ++ gap) = omega (arith, from, f, length-append front gap) in
    let there : t.to ≡ length ((front ++ gap) ++ spelled) = omega (arith, to, here, length-append (front ++ gap) spelled) in
    let parted = token_parted t.kind spelled after token (behind_gap gap (spelled ++ after) white (subst IsUtf8 split u)) in (
      subst (λ k. IsTextualSign (sign_of t.kind k)) (sym (span text (front ++ gap) spelled after t.from t.to whole here to)) parted.0,
      cut_texts text ((front ++ gap) ++ spelled) after t.to ts left further there parted.1 rest,
    )
  where
    span : (text front spelled after : List ℕ) (from to : ℕ) → text ≡ front ++ (spelled ++ after) → from ≡ length front → to ≡ from + length spelled → slice_range text from to ≡ spelled
    span text front spelled after from to e f g =
        let n : to - from ≡ length spelled = omega (arith, g) in
        ap (λ k. slice_range k from to) e ∙ ap (λ k. slice_range (front ++ (spelled ++ after)) k to) f
        ∙ ap₂ (λ k bs. take k bs) {x = to - length front} {y = length spelled} (omega (arith, f, n)) (drop-append_seam front (spelled ++ after))
        ∙ take-append_seam spelled after

-- the symbols that are left where some line ends go
joined_texts : (n : ℕ) (xs : List Symbol) → AreTexts xs → AreTexts (joined n xs)
joined_texts n [] are = tt
joined_texts n (x ∷ xs) are = kept n x.sign x.place xs are.0 (joined_texts (open_after x.sign n) xs are.1)
  where
    kept : (n : ℕ) (s : Sign) (place : ℕ) (xs : List Symbol) → IsTextualSign s → AreTexts (joined (open_after s n) xs) → AreTexts (joined n (record { sign = s; place = place } ∷ xs))
    kept zero s place xs is rest = (is, rest)
    kept (suc n) (word bytes) place xs is rest = (is, rest)
    kept (suc n) (quoted bytes) place xs is rest = (is, rest)
    kept (suc n) (mark Newline) place xs is rest = rest
    kept (suc n) (mark Semi) place xs is rest = (is, rest)
    kept (suc n) (mark Comma) place xs is rest = (is, rest)
    kept (suc n) (mark Equals) place xs is rest = (is, rest)
    kept (suc n) (mark OpenRound) place xs is rest = (is, rest)
    kept (suc n) (mark CloseRound) place xs is rest = (is, rest)
    kept (suc n) (mark OpenSquare) place xs is rest = (is, rest)
    kept (suc n) (mark CloseSquare) place xs is rest = (is, rest)
    kept (suc n) (mark OpenBrace) place xs is rest = (is, rest)
    kept (suc n) (mark CloseBrace) place xs is rest = (is, rest)
    kept (suc n) (mark Arrow) place xs is rest = (is, rest)
    kept (suc n) (mark Quoted) place xs is rest = (is, rest)
    kept (suc n) (mark Word) place xs is rest = (is, rest)

-- this is true of some symbols that are texts or marks
abbrev Left : Rest → Type 0
Left L = (xs : List Symbol) × AreTexts xs × L xs

next_left : (s : Sign) (L : Rest) → Left (Next s L) → Left L
next_left s L ([], are, h) = absurd h
next_left s L (x ∷ xs, are, h) = (xs, are.1, h.1)

placed_left : (s : Sign) (place : ℕ) (L : Rest) → Left (Placed s place L) → IsTextualSign s × Left L
placed_left s place L ([], are, h) = absurd h
placed_left s place L (x ∷ xs, are, h) = (subst IsTextualSign h.0 are.0, (xs, are.1, h.2))

text_left : (w : Written) (L : Rest) → Left (TextThen w L) → IsTextual w.bytes × Left L
text_left w L (xs, are, inl h) = placed_left (word w.bytes) w.place L (xs, are, h)
text_left w L (xs, are, inr h) = placed_left (quoted w.bytes) w.place L (xs, are, h)

commas_left : {A : Type 0} (part : A → Rest → Rest) (P : A → Type 0) → ((x : A) (L : Rest) → Left (part x L) → P x × Left L) → (xs : List A) (L : Rest) →
    Left (Commas part xs L) → OfEach P xs × Left L
commas_left part P each [] L l = (tt, l)
commas_left part P each (x ∷ []) L l = let h = each x L l in ((h.0, tt), h.1)
commas_left part P each (x ∷ y ∷ zs) L l =
    let h = each x (Mark Comma (Commas part (y ∷ zs) L)) l in
    let k = commas_left part P each (y ∷ zs) L (next_left (mark Comma) (Commas part (y ∷ zs) L) h.1) in
    ((h.0, k.0), k.1)

value_left : (v : RawValue) (L : Rest) → Left (ValueThen v L) → TextualValue v × Left L
value_left (one w) L l = text_left w L l
value_left (array place ws) L l =
    let h = placed_left (mark OpenBrace) place (Commas TextThen ws (Mark CloseBrace L)) l in
    let k = commas_left TextThen (λ w. IsTextual w.bytes) text_left ws (Mark CloseBrace L) h.1 in
    (k.0, next_left (mark CloseBrace) L k.1)

pair_left : (p : Written × RawValue) (L : Rest) → Left (PairThen p L) → TextualValue p.1 × Left L
pair_left p L l =
    let h = placed_left (word p.0.bytes) p.0.place (Mark Equals (ValueThen p.1 L)) l in value_left p.1 L (next_left (mark Equals) (ValueThen p.1 L) h.1)

parameters_left : (ps : RawParameters) (L : Rest) → Left (ParametersThen ps L) → TextualParameters ps × Left L
parameters_left (unnamed vs) L l = commas_left ValueThen TextualValue value_left vs L l
parameters_left (named []) L (xs, are, h) = absurd h
parameters_left (named (p ∷ ps)) L l = commas_left PairThen (λ q. TextualValue q.1) pair_left (p ∷ ps) L l

brackets_left : (ps : RawParameters) (L : Rest) → Left (BracketsThen ps L) → TextualParameters ps × Left L
brackets_left ps L (xs, are, inl h) = (subst TextualParameters (sym h.0) tt, (xs, are, h.1))
brackets_left ps L (xs, are, inr (inl h)) =
    let k = parameters_left ps (Mark CloseRound L) (next_left (mark OpenRound) (ParametersThen ps (Mark CloseRound L)) (xs, are, h)) in
    (k.0, next_left (mark CloseRound) L k.1)
brackets_left ps L (xs, are, inr (inr h)) =
    let k = parameters_left ps (Mark CloseSquare L) (next_left (mark OpenSquare) (ParametersThen ps (Mark CloseSquare L)) (xs, are, h)) in
    (k.0, next_left (mark CloseSquare) L k.1)

call_left : (c : RawCall) (L : Rest) → Left (CallThen c L) → TextualCall c × Left L
call_left c L (xs, are, h) = brackets_left c.parameters L (placed_left (word c.name.bytes) c.name.place (BracketsThen c.parameters L) (xs, are, h.1)).1

mutual
  predicate_left : (p : RawPredicate) (L : Rest) → Left (PredicateThen p L) → OfPredicate TextualCall p × Left L
  predicate_left (alone c) L l = conjunction_left c L l
  predicate_left (or_more c p) L l =
      let h = conjunction_left c (Keyword (codes "or") (PredicateThen p L)) l in
      let k = predicate_left p L (next_left (word (codes "or")) (PredicateThen p L) h.1) in
      ((h.0, k.0), k.1)

  conjunction_left : (c : RawConjunction) (L : Rest) → Left (ConjunctionThen c L) → OfConjunction TextualCall c × Left L
  conjunction_left (single f) L l = factor_left f L l
  conjunction_left (and_more f c) L l =
      let h = factor_left f (Keyword (codes "and") (ConjunctionThen c L)) l in
      let k = conjunction_left c L (next_left (word (codes "and")) (ConjunctionThen c L) h.1) in
      ((h.0, k.0), k.1)

  factor_left : (f : RawFactor) (L : Rest) → Left (FactorThen f L) → OfFactor TextualCall f × Left L
  factor_left (test c) L l = call_left c L l
  factor_left (negated f) L l = factor_left f L (next_left (word (codes "not")) (FactorThen f L) l)
  factor_left (grouped p) L l =
      let k = predicate_left p (Mark CloseRound L) (next_left (mark OpenRound) (PredicateThen p (Mark CloseRound L)) l) in (k.0, next_left (mark CloseRound) L k.1)

separators_left : (L : Rest) → Left (SeparatorsThen L) → Left L
separators_left L (xs, are, h) = over xs are h
  where
    over : (xs : List Symbol) → AreTexts xs → SeparatorsThen L xs → Left L
    over [] are h = ([], are, h)
    over (x ∷ xs) are (inl h) = (x ∷ xs, are, h)
    over (x ∷ xs) are (inr h) = over xs are.1 h.1

between_left : (braced : Bool) (L : Rest) → Left (Between braced L) → Left L
between_left true L l = l
between_left false L (xs, are, inl h) = next_left (mark Newline) L (xs, are, h)
between_left false L (xs, are, inr h) = next_left (mark Semi) L (xs, are, h)

arrow_left : (L : Rest) → Left (MaybeArrow L) → Left L
arrow_left L (xs, are, inl h) = (xs, are, h)
arrow_left L (xs, are, inr h) = next_left (mark Arrow) L (xs, are, h)

mutual
  target_left : (t : RawTarget) (L : Rest) → Left (TargetThen t L) → OfTarget TextualCall t × Left L
  target_left (handler c) L l = call_left c L l
  target_left restart L l = (tt, next_left (word (codes "restart")) L l)
  target_left done L l = (tt, next_left (word (codes "done")) L l)
  target_left (block raw) L l =
      let k = list_left raw (Mark CloseBrace L) (next_left (mark OpenBrace) (ListThen raw (Mark CloseBrace L)) l) in (k.0, next_left (mark CloseBrace) L k.1)

  statement_left : (s : RawStatement) (L : Rest) → Left (StatementThen s L) → OfStatement TextualCall s × Left L
  statement_left (act t) L l = target_left t L l
  statement_left (when p t) L l =
      let h = predicate_left p (Mark Arrow (TargetThen t L)) l in
      let k = target_left t L (next_left (mark Arrow) (TargetThen t L) h.1) in
      ((h.0, k.0), k.1)
  statement_left (when_else p t s) L l =
      let E = Keyword (codes "else") (MaybeArrow (StatementThen s L)) in
      let h = predicate_left p (Mark Arrow (TargetThen t (SeparatorsThen E))) l in
      let k = target_left t (SeparatorsThen E) (next_left (mark Arrow) (TargetThen t (SeparatorsThen E)) h.1) in
      let m = statement_left s L (arrow_left (StatementThen s L) (next_left (word (codes "else")) (MaybeArrow (StatementThen s L)) (separators_left E k.1))) in
      ((h.0, k.0, m.0), m.1)

  list_left : (raw : RawList) (L : Rest) → Left (ListThen raw L) → OfList TextualCall raw × Left L
  list_left none L l = (tt, separators_left L l)
  list_left (more s none) L l =
      let k = statement_left s (SeparatorsThen L) (separators_left (StatementThen s (SeparatorsThen L)) l) in ((k.0, tt), separators_left L k.1)
  list_left (more s (more t raw)) L l =
      let B = Between (ends_in_brace s) (ListThen (more t raw) L) in
      let h = statement_left s B (separators_left (StatementThen s B) l) in
      let k = list_left (more t raw) L (between_left (ends_in_brace s) (ListThen (more t raw) L) h.1) in
      ((h.0, k.0), k.1)

-- each value that a text's derivation holds is UTF-8, and is one Word or does not end with a backslash
pub values_are_textual : (text : List ℕ) (raw : RawList) → Reads text raw → OfList TextualCall raw
values_are_textual text raw (tokens, cuts, is) =
    let are : AreTexts (symbols_of text tokens) = cut_texts text [] text 0 tokens [] refl refl cuts.utf8 cuts.whole in
    (list_left raw AtEnd (joined 0 (symbols_of text tokens), joined_texts 0 (symbols_of text tokens) are, is.1)).0
