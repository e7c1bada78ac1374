-- A text is cut into tokens in one way, and stops at one place.
use Rattle.std.specs.Prelude.{◌≡◌, ◌⊎◌, ℕ, ◌+◌, ◌<◌, Bool, true, false, not, ◌||◌, ◌&&◌, ◌==◌, nat_lt, List, [], ◌∷◌, ◌++◌, length, Option, Some, None, if◌then◌else◌}
use Rattle.std.proofs.Common.{refl, sym, ◌∙◌, ap, ap₂, subst, arith, rules, append_assoc}
use Rattle.std.specs.List.{list_all}
use mathlib.Core.Logic.{inl, inr}
use Rattle.tow_language.specs.declared.token.Token.{Token}
use Rattle.tow_language.specs.declared.token.TokenKind.{TokenKind}
use Rattle.tow_language.specs.declared.token.TokenKind.TheVariants.{Newline, Semi, Comma, Equals, OpenRound, CloseRound, OpenSquare, CloseSquare, OpenBrace, CloseBrace, Arrow, Quoted, Word}
use Rattle.tow_language.specs.Tokens.{is_white, begins_piece, opens_brace, are_pieces, no_piece, is_quote, are_escaped, last_byte, IsQuoted, IsToken, CutsUpTo, is_open, IsOpenQuote, IsOpenBrace, IsStray}

pub and_left : (a b : Bool) → (a && b) ≡ true → a ≡ true
and_left true b e = refl
and_left false b e = e

and_right : (a b : Bool) → (a && b) ≡ true → b ≡ true
and_right true b e = e
and_right false b e = absurd cc

or_false_left : (a b : Bool) → (a || b) ≡ false → a ≡ false
or_false_left true b e = e
or_false_left false b e = refl

or_false_right : (a b : Bool) → (a || b) ≡ false → b ≡ false
or_false_right true b e = absurd cc
or_false_right false b e = e

not_true : (a : Bool) → not a ≡ true → a ≡ false
not_true true e = absurd cc
not_true false e = refl

both_ways : (a : Bool) → a ≡ true → a ≡ false → ⊥
both_ways a e f = let g : true ≡ false = sym e ∙ f in cc

head_of : (a b : ℕ) (xs ys : List ℕ) → a ∷ xs ≡ b ∷ ys → a ≡ b
head_of a b xs ys e = cc

tail_of : (a b : ℕ) (xs ys : List ℕ) → a ∷ xs ≡ b ∷ ys → xs ≡ ys
tail_of a b xs ys e = cc

or_rest : (a b : Bool) → a ≡ false → (a || b) ≡ true → b ≡ true
or_rest true b e f = absurd cc
or_rest false b e f = f

same_byte : (n : ℕ) → (n == n) ≡ true
same_byte n = search rules

-- a quote that stands behind no backslash
escaped_quote : (q c before : ℕ) → q ≡ c → (not (c == q) || before == 92) ≡ true → (before == 92) ≡ false → ⊥
escaped_quote q c before e f g =
    let same : (c == q) ≡ true = subst (λ k. (k == q) ≡ true) e (same_byte q) in
    both_ways (before == 92) (or_rest (not (c == q)) (before == 92) (ap not same) f) g

-- two runs of pieces, each the longest
one_run : (inside : Bool) (s t a b : List ℕ) → s ++ a ≡ t ++ b → are_pieces inside s a ≡ true → no_piece a ≡ true → are_pieces inside t b ≡ true → no_piece b ≡ true →
    (s ≡ t) × (a ≡ b)
one_run inside [] [] a b e p n q m = (refl, e)
one_run true [] (c ∷ t) a b e p n q m = absurd cc
one_run false [] (c ∷ t) a b e p n q m =
    absurd (both_ways (begins_piece c (t ++ b)) (and_left _ _ q) (not_true _ (sym (ap no_piece e) ∙ n)))
one_run true (c ∷ s) [] a b e p n q m = absurd cc
one_run false (c ∷ s) [] a b e p n q m =
    absurd (both_ways (begins_piece c (s ++ a)) (and_left _ _ p) (not_true _ (ap no_piece e ∙ m)))
one_run true (c ∷ s) (d ∷ t) a b e p n q m =
    let h = head_of c d _ _ e in let r = tail_of c d _ _ e in
    let o = one_run (not (c == 125)) s t a b r (and_right _ _ p) n (subst (λ k. are_pieces (not (k == 125)) t b ≡ true) (sym h) (and_right _ _ q)) m in
    (ap₂ (λ k ks. k ∷ ks) h o.0, o.1)
one_run false (c ∷ s) (d ∷ t) a b e p n q m =
    let h = head_of c d _ _ e in let r = tail_of c d _ _ e in
    let same : opens_brace d (t ++ b) ≡ opens_brace c (s ++ a) = ap₂ opens_brace (sym h) (sym r) in
    let o = one_run (opens_brace c (s ++ a)) s t a b r (and_right _ _ p) n (subst (λ k. are_pieces k t b ≡ true) same (and_right _ _ q)) m in
    (ap₂ (λ k ks. k ∷ ks) h o.0, o.1)

-- a brace that is open closes within its line
closes : (s a : List ℕ) → are_pieces true s a ≡ true → is_open (s ++ a) ≡ true → ⊥
closes [] a p o = cc
closes (b ∷ s) a p o =
    let e : (b == 10) ≡ false = not_true _ (and_left _ _ p) in
    let r = or_rest (b == 10) _ e o in
    let f : (b == 125) ≡ false = not_true _ (and_left _ _ r) in
    closes s a (subst (λ k. are_pieces (not k) s a ≡ true) f (and_right _ _ p)) (and_right _ _ r)

no_empty_brace : IsOpenBrace [] → ⊥
no_empty_brace (b, inside, e, opens, open_) = cc

pub sigil : (c : ℕ) → (c == 37 || c == 36) ≡ true → (c ≡ 37) ⊎ (c ≡ 36)
sigil c f = search rules

brace_begins : (b : ℕ) (after : List ℕ) → opens_brace b after ≡ true → begins_piece b after ≡ true
brace_begins b after e = at_byte (and_left _ _ e)
  where
    at_byte : (b == 37 || b == 36) ≡ true → begins_piece b after ≡ true
    at_byte f = elim (sigil b f) [ inl g ↦ subst (λ k. begins_piece k after ≡ true) (sym g) refl | inr g ↦ subst (λ k. begins_piece k after ≡ true) (sym g) refl ]

-- a run of pieces, and pieces with an open brace behind them
run_no_open : (inside : Bool) (s p a t : List ℕ) → s ++ a ≡ p ++ t → are_pieces inside s a ≡ true → no_piece a ≡ true → are_pieces inside p t ≡ true → IsOpenBrace t → ⊥
run_no_open true [] p a t e x n y z = cc
run_no_open true (c ∷ s) [] a t e x n y z = cc
run_no_open false [] [] a t e x n y (b, inside, f, opens, still) =
    both_ways (begins_piece b inside) (brace_begins b inside opens) (not_true _ (sym (ap no_piece (e ∙ f)) ∙ n))
run_no_open false [] (c ∷ p) a t e x n y z =
    both_ways (begins_piece c (p ++ t)) (and_left _ _ y) (not_true _ (sym (ap no_piece e) ∙ n))
run_no_open false (c ∷ s) [] a t e x n y (b, inside, f, opens, still) =
    let h = head_of c b _ _ (e ∙ f) in let r = tail_of c b _ _ (e ∙ f) in
    let opened : opens_brace c (s ++ a) ≡ true = ap₂ opens_brace h r ∙ opens in
    closes s a (subst (λ k. are_pieces k s a ≡ true) opened (and_right _ _ x)) (ap is_open r ∙ still)
run_no_open true (c ∷ s) (d ∷ p) a t e x n y z =
    let h = head_of c d _ _ e in let r = tail_of c d _ _ e in
    run_no_open (not (c == 125)) s p a t r (and_right _ _ x) n (subst (λ k. are_pieces (not (k == 125)) p t ≡ true) (sym h) (and_right _ _ y)) z
run_no_open false (c ∷ s) (d ∷ p) a t e x n y z =
    let h = head_of c d _ _ e in let r = tail_of c d _ _ e in
    let same : opens_brace d (p ++ t) ≡ opens_brace c (s ++ a) = ap₂ opens_brace (sym h) (sym r) in
    run_no_open (opens_brace c (s ++ a)) s p a t r (and_right _ _ x) n (subst (λ k. are_pieces k p t ≡ true) same (and_right _ _ y)) z

-- two open braces behind pieces
pub one_open : (inside : Bool) (p q t u : List ℕ) → p ++ t ≡ q ++ u → are_pieces inside p t ≡ true → IsOpenBrace t → are_pieces inside q u ≡ true → IsOpenBrace u → (p ≡ q) × (t ≡ u)
one_open inside [] [] t u e x z y w = (refl, e)
one_open true [] (d ∷ q) t u e x z y w = absurd cc
one_open true (c ∷ p) [] t u e x z y w = absurd cc
one_open false [] (d ∷ q) t u e x (b, more, f, opens, still) y w =
    let h = head_of b d _ _ (sym f ∙ e) in let r = tail_of b d _ _ (sym f ∙ e) in
    let opened : opens_brace d (q ++ u) ≡ true = ap₂ opens_brace (sym h) (sym r) ∙ opens in
    absurd (open_no_more q u (subst (λ k. are_pieces k q u ≡ true) opened (and_right _ _ y)) (ap is_open (sym r) ∙ still))
  where
    open_no_more : (s a : List ℕ) → are_pieces true s a ≡ true → is_open (s ++ a) ≡ true → ⊥
    open_no_more s a = closes s a
one_open false (c ∷ p) [] t u e x z y (b, more, f, opens, still) =
    let h = head_of c b _ _ (e ∙ f) in let r = tail_of c b _ _ (e ∙ f) in
    let opened : opens_brace c (p ++ t) ≡ true = ap₂ opens_brace h r ∙ opens in
    absurd (closes p t (subst (λ k. are_pieces k p t ≡ true) opened (and_right _ _ x)) (ap is_open r ∙ still))
one_open true (c ∷ p) (d ∷ q) t u e x z y w =
    let h = head_of c d _ _ e in let r = tail_of c d _ _ e in
    let o = one_open (not (c == 125)) p q t u r (and_right _ _ x) z (subst (λ k. are_pieces (not (k == 125)) q u ≡ true) (sym h) (and_right _ _ y)) w in
    (ap₂ (λ k ks. k ∷ ks) h o.0, o.1)
one_open false (c ∷ p) (d ∷ q) t u e x z y w =
    let h = head_of c d _ _ e in let r = tail_of c d _ _ e in
    let same : opens_brace d (q ++ u) ≡ opens_brace c (p ++ t) = ap₂ opens_brace (sym h) (sym r) in
    let o = one_open (opens_brace c (p ++ t)) p q t u r (and_right _ _ x) z (subst (λ k. are_pieces k q u ≡ true) same (and_right _ _ y)) w in
    (ap₂ (λ k ks. k ∷ ks) h o.0, o.1)

-- two quoted texts
one_inside : (q before : ℕ) (i j a b : List ℕ) → i ++ q ∷ a ≡ j ++ q ∷ b → are_escaped q before i ≡ true → (last_byte before i == 92) ≡ false →
    are_escaped q before j ≡ true → (last_byte before j == 92) ≡ false → (i ≡ j) × (a ≡ b)
one_inside q before [] [] a b e x l y m = (refl, tail_of q q a b e)
one_inside q before [] (c ∷ j) a b e x l y m =
    absurd (escaped_quote q c before (head_of q c _ _ e) (and_left _ _ y) l)
one_inside q before (c ∷ i) [] a b e x l y m =
    absurd (escaped_quote q c before (sym (head_of c q _ _ e)) (and_left _ _ x) m)
one_inside q before (c ∷ i) (d ∷ j) a b e x l y m =
    let h = head_of c d _ _ e in
    let o = one_inside q c i j a b (tail_of c d _ _ e) (and_right _ _ x) l (subst (λ k. are_escaped q k j ≡ true) (sym h) (and_right _ _ y)) (subst (λ k. (last_byte k j == 92) ≡ false) (sym h) m) in
    (ap₂ (λ k ks. k ∷ ks) h o.0, o.1)

-- a closed quote is not open
no_open_quote : (q before : ℕ) (i a j : List ℕ) → i ++ q ∷ a ≡ j → are_escaped q before i ≡ true → (last_byte before i == 92) ≡ false → are_escaped q before j ≡ true → ⊥
no_open_quote q before [] a [] e x l y = cc
no_open_quote q before [] a (c ∷ j) e x l y = escaped_quote q c before (head_of q c _ _ e) (and_left _ _ y) l
no_open_quote q before (c ∷ i) a [] e x l y = cc
no_open_quote q before (c ∷ i) a (d ∷ j) e x l y =
    let h = head_of c d _ _ e in
    no_open_quote q c i a j (tail_of c d _ _ e) (and_right _ _ x) l (subst (λ k. are_escaped q k j ≡ true) (sym h) (and_right _ _ y))

-- the kind of the token at the front of some bytes
abbrev pub kind_at : List ℕ → Option TokenKind
kind_at [] = None
kind_at (b ∷ bs) =
    if begins_piece b bs then Some Word else
    (if is_quote b then Some Quoted else
    (if b == 45 then Some Arrow else
    (if b == 10 then Some Newline else
    (if b == 59 then Some Semi else
    (if b == 44 then Some Comma else
    (if b == 61 then Some Equals else
    (if b == 40 then Some OpenRound else
    (if b == 41 then Some CloseRound else
    (if b == 91 then Some OpenSquare else
    (if b == 93 then Some CloseSquare else
    (if b == 123 then Some OpenBrace else
    (if b == 125 then Some CloseBrace else None))))))))))))

pub quote_is : (q : ℕ) → is_quote q ≡ true → (q ≡ 39) ⊎ (q ≡ 34)
quote_is q e = search rules

pub quote_kind : (q : ℕ) (bs : List ℕ) → is_quote q ≡ true → kind_at (q ∷ bs) ≡ Some Quoted
quote_kind q bs e =
    elim (quote_is q e) [ inl f ↦ subst (λ k. kind_at (k ∷ bs) ≡ Some Quoted) (sym f) refl | inr f ↦ subst (λ k. kind_at (k ∷ bs) ≡ Some Quoted) (sym f) refl ]

chosen : (t : Bool) (o : Option TokenKind) → t ≡ true → (if t then Some Word else o) ≡ Some Word
chosen true o f = refl
chosen false o f = absurd cc

piece_kind : (b : ℕ) (bs : List ℕ) → begins_piece b bs ≡ true → kind_at (b ∷ bs) ≡ Some Word
piece_kind b bs e = chosen (begins_piece b bs) _ e

word_kind : (s a : List ℕ) → 0 < length s → are_pieces false s a ≡ true → kind_at (s ++ a) ≡ Some Word
word_kind [] a p e = absurd (omega (arith, p))
word_kind (b ∷ s) a p e = piece_kind b (s ++ a) (and_left _ _ e)

-- a token is of the kind that stands at its front
token_kind : (k : TokenKind) (s a : List ℕ) → IsToken k s a → kind_at (s ++ a) ≡ Some k
token_kind Newline s a t = ap (λ k. kind_at (k ++ a)) t
token_kind Semi s a t = ap (λ k. kind_at (k ++ a)) t
token_kind Comma s a t = ap (λ k. kind_at (k ++ a)) t
token_kind Equals s a t = ap (λ k. kind_at (k ++ a)) t
token_kind OpenRound s a t = ap (λ k. kind_at (k ++ a)) t
token_kind CloseRound s a t = ap (λ k. kind_at (k ++ a)) t
token_kind OpenSquare s a t = ap (λ k. kind_at (k ++ a)) t
token_kind CloseSquare s a t = ap (λ k. kind_at (k ++ a)) t
token_kind OpenBrace s a t = ap (λ k. kind_at (k ++ a)) t
token_kind CloseBrace s a t = ap (λ k. kind_at (k ++ a)) t
token_kind Arrow s a t = ap (λ k. kind_at (k ++ a)) t
token_kind Quoted s a (q, inside, quote, e, escaped, last) = ap (λ k. kind_at (k ++ a)) e ∙ quote_kind q ((inside ++ q ∷ []) ++ a) quote
token_kind Word s a t = word_kind s a t.0 t.1

some_same : (j k : TokenKind) → Some j ≡ Some k → j ≡ k
some_same j k e = cc

same_front : (m s t a b : List ℕ) → s ≡ m → t ≡ m → s ++ a ≡ t ++ b → (s ≡ t) × (a ≡ b)
same_front [] s t a b e f g = (e ∙ sym f, sym (ap (λ k. k ++ a) e) ∙ g ∙ ap (λ k. k ++ b) f)
same_front (x ∷ m) s t a b e f g =
    (e ∙ sym f, same_tail (x ∷ m) a b (sym (ap (λ k. k ++ a) e) ∙ g ∙ ap (λ k. k ++ b) f))
  where
    same_tail : (n c d : List ℕ) → n ++ c ≡ n ++ d → c ≡ d
    same_tail [] c d h = h
    same_tail (y ∷ n) c d h = same_tail n c d (tail_of y y (n ++ c) (n ++ d) h)

one_quoted : (s t a b : List ℕ) → IsQuoted s → IsQuoted t → s ++ a ≡ t ++ b → (s ≡ t) × (a ≡ b)
one_quoted s t a b (q, i, quote, e, x, l) (r, j, quote2, f, y, m) g =
    let whole : q ∷ ((i ++ q ∷ []) ++ a) ≡ r ∷ ((j ++ r ∷ []) ++ b) = sym (ap (λ k. k ++ a) e) ∙ g ∙ ap (λ k. k ++ b) f in
    let h = head_of q r _ _ whole in
    let rest : i ++ q ∷ a ≡ j ++ q ∷ b =
    sym (append_assoc i (q ∷ []) a) ∙ tail_of q r _ _ whole ∙ append_assoc j (r ∷ []) b ∙ ap (λ k. j ++ k ∷ b) (sym h) in
    let o = one_inside q q i j a b rest x l (subst (λ k. are_escaped k k j ≡ true) (sym h) y) (subst (λ k. (last_byte k j == 92) ≡ false) (sym h) m) in
    (e ∙ ap₂ (λ k ks. k ∷ (ks ++ k ∷ [])) h o.0 ∙ sym f, o.1)

-- the token at the front of some bytes
one_token : (k : TokenKind) (s t a b : List ℕ) → IsToken k s a → IsToken k t b → s ++ a ≡ t ++ b → (s ≡ t) × (a ≡ b)
one_token Newline s t a b x y e = same_front _ s t a b x y e
one_token Semi s t a b x y e = same_front _ s t a b x y e
one_token Comma s t a b x y e = same_front _ s t a b x y e
one_token Equals s t a b x y e = same_front _ s t a b x y e
one_token OpenRound s t a b x y e = same_front _ s t a b x y e
one_token CloseRound s t a b x y e = same_front _ s t a b x y e
one_token OpenSquare s t a b x y e = same_front _ s t a b x y e
one_token CloseSquare s t a b x y e = same_front _ s t a b x y e
one_token OpenBrace s t a b x y e = same_front _ s t a b x y e
one_token CloseBrace s t a b x y e = same_front _ s t a b x y e
one_token Arrow s t a b x y e = same_front _ s t a b x y e
one_token Quoted s t a b x y e = one_quoted s t a b x y e
one_token Word s t a b x y e = one_run false s t a b e x.1 x.2 y.1 y.2

-- white space and what is none
abbrev pub is_dark : List ℕ → Bool
is_dark [] = true
is_dark (b ∷ bs) = not (is_white b)

one_gap : (g h a b : List ℕ) → g ++ a ≡ h ++ b → list_all is_white g ≡ true → list_all is_white h ≡ true → is_dark a ≡ true → is_dark b ≡ true → (g ≡ h) × (a ≡ b)
one_gap [] [] a b e x y m n = (refl, e)
one_gap [] (c ∷ h) a b e x y m n = absurd (both_ways (is_white c) (and_left _ _ y) (not_true _ (sym (ap is_dark e) ∙ m)))
one_gap (c ∷ g) [] a b e x y m n = absurd (both_ways (is_white c) (and_left _ _ x) (not_true _ (ap is_dark e ∙ n)))
one_gap (c ∷ g) (d ∷ h) a b e x y m n =
    let o = one_gap g h a b (tail_of c d _ _ e) (and_right _ _ x) (and_right _ _ y) m n in
    (ap₂ (λ k ks. k ∷ ks) (head_of c d _ _ e) o.0, o.1)

white_kind : (b : ℕ) (bs : List ℕ) → is_white b ≡ true → kind_at (b ∷ bs) ≡ None
white_kind b bs e = at_byte (white_is b e)
  where
    white_is : (c : ℕ) → is_white c ≡ true → ((c ≡ 32) ⊎ (c ≡ 9)) ⊎ (c ≡ 13)
    white_is c f = search rules

    at_byte : ((b ≡ 32) ⊎ (b ≡ 9)) ⊎ (b ≡ 13) → kind_at (b ∷ bs) ≡ None
    at_byte (inl (inl f)) = subst (λ k. kind_at (k ∷ bs) ≡ None) (sym f) refl
    at_byte (inl (inr f)) = subst (λ k. kind_at (k ∷ bs) ≡ None) (sym f) refl
    at_byte (inr f) = subst (λ k. kind_at (k ∷ bs) ≡ None) (sym f) refl

kind_dark : (k : TokenKind) (bs : List ℕ) → kind_at bs ≡ Some k → is_dark bs ≡ true
kind_dark k [] e = refl
kind_dark k (b ∷ bs) e = by_test (is_white b) refl
  where
    by_test : (t : Bool) → is_white b ≡ t → not (is_white b) ≡ true
    by_test true f = absurd (let g : Some k ≡ None = sym e ∙ white_kind b bs f in cc)
    by_test false f = ap not f

-- bytes at which no further token is cut
pub data IsStuck : List ℕ → Type 0 where
  over : IsStuck []
  quote : {left : List ℕ} → IsOpenQuote left → IsStuck left
  stray : {left : List ℕ} → IsStray left → IsStuck left
  brace : (pieces left : List ℕ) → are_pieces false pieces left ≡ true → IsOpenBrace left → IsStuck (pieces ++ left)

pub open_kind : (p t : List ℕ) → are_pieces false p t ≡ true → IsOpenBrace t → kind_at (p ++ t) ≡ Some Word
open_kind [] t e (b, inside, f, opens, still) = ap kind_at f ∙ piece_kind b inside (brace_begins b inside opens)
open_kind (c ∷ p) t e z = piece_kind c (p ++ t) (and_left _ _ e)

pub stray_kind : (left : List ℕ) → IsStray left → kind_at left ≡ None
stray_kind left (b, after, e, light, out) = ap kind_at e ∙ none_at b after light out
  where
    none_at : (b : ℕ) (after : List ℕ) → (is_white b || b == 10) ≡ false → (nat_lt b 33 || nat_lt 126 b) ≡ true → kind_at (b ∷ after) ≡ None
    none_at b after light out = search rules

stuck_dark : (left : List ℕ) → IsStuck left → is_dark left ≡ true
stuck_dark left over = refl
stuck_dark left (quote (q, inside, e, f, g)) = kind_dark Quoted left (ap kind_at f ∙ quote_kind q inside e)
stuck_dark left (stray (b, after, e, light, out)) = ap is_dark e ∙ ap not (or_false_left _ _ light)
stuck_dark left (brace p t e z) = kind_dark Word (p ++ t) (open_kind p t e z)

no_token_stuck : (k : TokenKind) (s a left : List ℕ) → IsToken k s a → s ++ a ≡ left → IsStuck left → ⊥
no_token_stuck k s a left t e over = let g : None ≡ Some k = sym (ap kind_at e) ∙ token_kind k s a t in cc
no_token_stuck k s a left t e (stray z) = let g : None ≡ Some k = sym (stray_kind left z) ∙ sym (ap kind_at e) ∙ token_kind k s a t in cc
no_token_stuck k s a left t e (quote (q, inside, f, g, h)) =
    let same : k ≡ Quoted = some_same k Quoted (sym (token_kind k s a t) ∙ ap kind_at (e ∙ g) ∙ quote_kind q inside f) in
    closed s a left q inside (subst (λ j. IsToken j s a) same t) (e ∙ g) h
  where
    closed : (s a left : List ℕ) (q : ℕ) (inside : List ℕ) → IsQuoted s → s ++ a ≡ q ∷ inside → are_escaped q q inside ≡ true → ⊥
    closed s a left q inside (r, i, quote2, f, x, l) e h =
        let whole : r ∷ ((i ++ r ∷ []) ++ a) ≡ q ∷ inside = sym (ap (λ k. k ++ a) f) ∙ e in
        let head = head_of r q _ _ whole in
        no_open_quote r r i a inside (sym (append_assoc i (r ∷ []) a) ∙ tail_of r q _ _ whole) x l (subst (λ k. are_escaped k k inside ≡ true) (sym head) h)
no_token_stuck k s a left t e (brace p u x z) =
    let same : k ≡ Word = some_same k Word (sym (token_kind k s a t) ∙ ap kind_at e ∙ open_kind p u x z) in
    let w = subst (λ j. IsToken j s a) same t in
    run_no_open false s p a u e w.1 w.2 x z

-- one way to cut, and one place to stop
pub one_cut : (at : ℕ) (bytes : List ℕ) (ts us : List Token) (left right : List ℕ) → CutsUpTo at bytes ts left → CutsUpTo at bytes us right → IsStuck left → IsStuck right →
    (ts ≡ us) × (left ≡ right)
one_cut at bytes [] [] left right (g, e, x) (h, f, y) m n =
    (refl, (one_gap g h left right (sym e ∙ f) x y (stuck_dark left m) (stuck_dark right n)).1)
one_cut at bytes [] (u ∷ us) left right (g, e, x) (h, s, a, f, y, from, to, k, more) m n =
    let o = one_gap g h left (s ++ a) (sym e ∙ f) x y (stuck_dark left m) (kind_dark u.kind (s ++ a) (token_kind u.kind s a k)) in
    absurd (no_token_stuck u.kind s a left k (sym o.1) m)
one_cut at bytes (t ∷ ts) [] left right (g, s, a, e, x, from, to, k, more) (h, f, y) m n =
    let o = one_gap h g right (s ++ a) (sym f ∙ e) y x (stuck_dark right n) (kind_dark t.kind (s ++ a) (token_kind t.kind s a k)) in
    absurd (no_token_stuck t.kind s a right k (sym o.1) n)
one_cut at bytes (t ∷ ts) (u ∷ us) left right (g, s, a, e, x, from, to, k, more) (h, r, b, f, y, from2, to2, j, more2) m n =
    let o = one_gap g h (s ++ a) (r ++ b) (sym e ∙ f) x y (kind_dark t.kind (s ++ a) (token_kind t.kind s a k)) (kind_dark u.kind (r ++ b) (token_kind u.kind r b j)) in
    let kinds : t.kind ≡ u.kind = some_same _ _ (sym (token_kind t.kind s a k) ∙ ap kind_at o.1 ∙ token_kind u.kind r b j) in
    let w = one_token u.kind s r a b (subst (λ i. IsToken i s a) kinds k) j o.1 in
    let froms : t.from ≡ u.from = from ∙ ap (λ z. at + length z) o.0 ∙ sym from2 in
    let tos : t.to ≡ u.to = to ∙ ap₂ (λ p q. p + length q) froms w.0 ∙ sym to2 in
    let next : CutsUpTo u.to b ts left = subst (λ p. CutsUpTo p b ts left) tos (subst (λ z. CutsUpTo t.to z ts left) w.1 more) in
    let z = one_cut u.to b ts us left right next more2 m n in
    (ap₂ (λ p ps. p ∷ ps) (same_token t u kinds froms tos) z.0, z.1)
  where
    same_token : (t u : Token) → t.kind ≡ u.kind → t.from ≡ u.from → t.to ≡ u.to → t ≡ u
    same_token t u e f g =
        ap (λ (k : TokenKind). let r : Token = record { kind = k; from = t.from; to = t.to } in r) e
        ∙ ap (λ n. let r : Token = record { kind = u.kind; from = n; to = t.to } in r) f
        ∙ ap (λ n. let r : Token = record { kind = u.kind; from = u.from; to = n } in r) g
