-- The laws of the definitions that are proved: one cut, one derivation; and what makes a fault the first.
use Rattle.std.specs.Prelude.{◌∷◌, ◌-◌, Bool, nat_lt, ◌==◌, ◌||◌, Option, ◌⊎◌, ◌<◌, zero, suc, IsUtf8, take, drop, Result, Ok, Err, ◌≡◌, ℕ, ◌+◌, ◌≤◌, true, false, List, [], ◌++◌, length, Some}
use Rattle.std.specs.Str.{IsValidUpTo}
use Rattle.std.specs.Str.Lossy.{utf8_valid_len}
use Rattle.std.proofs.lemmas.Str.{utf8_valid_len-IsUtf8, utf8_valid_len-IsValidUpTo, IsUtf8-append}
use lib.Utf8.{encode}
use Rattle.std.proofs.Common.{rules, append_assoc, length-append, refl, sym, ◌∙◌, ap, subst, arith}
use Rattle.std.proofs.Math.Seq.{take-add}
use mathlib.Core.Logic.{inl, inr}
use Rattle.tow_language.specs.declared.kind.Kind.{Kind}
use Rattle.tow_language.specs.declared.kind.Kind.TheVariants.{TooLong, UnclosedQuote, UnclosedBrace, StrayByte, Unexpected, TooDeep, UnknownName, BadParameter, BadAttribute, BadTarget, TooManyLimits, BadPattern, LargePattern}
use Rattle.tow_language.specs.declared.token.Token.{Token}
use Rattle.tow_language.specs.declared.token.TokenKind.{TokenKind}
use Rattle.tow_language.specs.declared.token.TokenKind.TheVariants.{Quoted, Word}
use Rattle.tow_language.specs.Tokens.{CutsUpTo, is_quote, Cuts, are_pieces, Reaches, IsOpenQuote, IsOpenBrace, IsStray, HasFault, IsTokenFault}
use Rattle.tow_language.specs.Raw.{RawList}
use Rattle.tow_language.specs.Symbols.{joined, Symbol, symbols_of}
use Rattle.tow_language.specs.Grammar.{ListThen, AtEnd}
use Rattle.tow_language.specs.Syntax.{Reads, IsList, Begins, StopsAt, IsUnexpected, IsTooDeep, IsSyntaxFault, place_at}
use Rattle.tow_language.specs.Laws.{OneCut, OneDerivation, OneFault, NoTreeAtFault}
use Rattle.tow_language.specs.Fit.{TextFault, fit}
use Rattle.tow_language.proofs.Cut.{quote_is, sigil, and_left, IsStuck, over, quote, stray, brace, one_cut, one_open, kind_at, quote_kind, open_kind, stray_kind}
use Rattle.tow_language.proofs.Unique.{one_derivation}

pub is_one_cut : OneCut
is_one_cut text a b x y = (one_cut 0 text a b [] [] x.whole y.whole over over).0

pub is_one_derivation : OneDerivation
is_one_derivation text a b (ts, cut, reads) (us, cut2, reads2) =
    let same : us ≡ ts = is_one_cut text us ts cut2 cut in
    one_derivation a b (joined 0 (symbols_of text ts)) reads.1 (subst (λ ks. ListThen b AtEnd (joined 0 (symbols_of text ks))) same reads2.1)

-- two places at which the text stops are one
pub one_stop : (text : List ℕ) (p q : ℕ) (left right : List ℕ) → Reaches text p left → Reaches text q right → IsStuck left → IsStuck right → (p ≡ q) × (left ≡ right)
one_stop text p q left right (ts, cut, e) (us, cut2, f) m n =
    let o = one_cut 0 text ts us left right cut cut2 m n in
    let g : length left ≡ length right = ap length o.1 in
    (omega (arith, e, f, g), o.1)

-- the text stops at a place before which all is UTF-8: no fault is earlier
pub no_earlier : (text : List ℕ) (place : ℕ) (left : List ℕ) → Reaches text place left → IsStuck left → place ≤ utf8_valid_len text →
    (other : Kind) (earlier : ℕ) → HasFault text other earlier → place ≤ earlier
no_earlier text place left r m valid UnclosedQuote earlier (right, s, q) =
    let o = one_stop text place earlier left right r s m (quote q) in let e = o.0 in omega (arith, e)
no_earlier text place left r m valid UnclosedBrace earlier (pieces, right, start, s, are, open_, at) =
    let o = one_stop text place start left (pieces ++ right) r s m (brace pieces right are open_) in let e = o.0 in omega (arith, e, at)
no_earlier text place left r m valid StrayByte earlier (inl (right, s, z)) =
    let o = one_stop text place earlier left right r s m (stray z) in let e = o.0 in omega (arith, e)
no_earlier text place left r m valid StrayByte earlier (inr v) = let e = utf8_valid_len-IsValidUpTo text earlier v in omega (arith, e, valid)
no_earlier text place left r m valid TooLong earlier h = absurd h
no_earlier text place left r m valid Unexpected earlier h = absurd h
no_earlier text place left r m valid TooDeep earlier h = absurd h
no_earlier text place left r m valid UnknownName earlier h = absurd h
no_earlier text place left r m valid BadParameter earlier h = absurd h
no_earlier text place left r m valid BadAttribute earlier h = absurd h
no_earlier text place left r m valid BadTarget earlier h = absurd h
no_earlier text place left r m valid TooManyLimits earlier h = absurd h
no_earlier text place left r m valid BadPattern earlier h = absurd h
no_earlier text place left r m valid LargePattern earlier h = absurd h

pub kinds_apart : (a b : List ℕ) (j k : TokenKind) → a ≡ b → kind_at a ≡ Some j → kind_at b ≡ Some k → j ≡ k
kinds_apart a b j k e f g = let h : Some j ≡ Some k = sym f ∙ ap kind_at e ∙ g in cc

-- the same for an open brace, which may stand inside a word
pub no_earlier_brace : (text : List ℕ) (start : ℕ) (pieces left : List ℕ) → Reaches text start (pieces ++ left) → are_pieces false pieces left ≡ true → IsOpenBrace left →
    start + length pieces ≤ utf8_valid_len text → (other : Kind) (earlier : ℕ) → HasFault text other earlier → start + length pieces ≤ earlier
no_earlier_brace text start pieces left r are open_ valid UnclosedQuote earlier (right, s, (q, inside, is, f, g)) =
    let o = one_stop text start earlier (pieces ++ left) right r s (brace pieces left are open_) (quote (q, inside, is, f, g)) in
    let e : Word ≡ Quoted = kinds_apart (pieces ++ left) right Word Quoted o.1 (open_kind pieces left are open_) (ap kind_at f ∙ quote_kind q inside is) in absurd cc
no_earlier_brace text start pieces left r are open_ valid UnclosedBrace earlier (more, right, begin_, s, are2, open2, at) =
    let o = one_stop text start begin_ (pieces ++ left) (more ++ right) r s (brace pieces left are open_) (brace more right are2 open2) in
    let w = one_open false pieces more left right o.1 are open_ are2 open2 in
    let e = o.0 in let n : length pieces ≡ length more = ap length w.0 in omega (arith, e, at, n)
no_earlier_brace text start pieces left r are open_ valid StrayByte earlier (inl (right, s, z)) =
    let o = one_stop text start earlier (pieces ++ left) right r s (brace pieces left are open_) (stray z) in
    absurd (let h = sym (open_kind pieces left are open_) ∙ ap kind_at o.1 ∙ stray_kind right z in cc)
no_earlier_brace text start pieces left r are open_ valid StrayByte earlier (inr v) = let e = utf8_valid_len-IsValidUpTo text earlier v in omega (arith, e, valid)
no_earlier_brace text start pieces left r are open_ valid TooLong earlier h = absurd h
no_earlier_brace text start pieces left r are open_ valid Unexpected earlier h = absurd h
no_earlier_brace text start pieces left r are open_ valid TooDeep earlier h = absurd h
no_earlier_brace text start pieces left r are open_ valid UnknownName earlier h = absurd h
no_earlier_brace text start pieces left r are open_ valid BadParameter earlier h = absurd h
no_earlier_brace text start pieces left r are open_ valid BadAttribute earlier h = absurd h
no_earlier_brace text start pieces left r are open_ valid BadTarget earlier h = absurd h
no_earlier_brace text start pieces left r are open_ valid TooManyLimits earlier h = absurd h
no_earlier_brace text start pieces left r are open_ valid BadPattern earlier h = absurd h
no_earlier_brace text start pieces left r are open_ valid LargePattern earlier h = absurd h

-- from where the text stops to its fault
pub quote_fault : (text : List ℕ) (place : ℕ) (left : List ℕ) → length text ≤ 65536 → Reaches text place left → IsOpenQuote left → place ≤ utf8_valid_len text →
    IsTokenFault text UnclosedQuote place
quote_fault text place left short r q valid = (short, (left, r, q), no_earlier text place left r (quote q) valid)

pub stray_fault : (text : List ℕ) (place : ℕ) (left : List ℕ) → length text ≤ 65536 → Reaches text place left → IsStray left → place ≤ utf8_valid_len text →
    IsTokenFault text StrayByte place
stray_fault text place left short r q valid = (short, inl (left, r, q), no_earlier text place left r (stray q) valid)

pub brace_fault : (text : List ℕ) (start : ℕ) (pieces left : List ℕ) → length text ≤ 65536 → Reaches text start (pieces ++ left) → are_pieces false pieces left ≡ true →
    IsOpenBrace left → start + length pieces ≤ utf8_valid_len text → IsTokenFault text UnclosedBrace (start + length pieces)
brace_fault text start pieces left short r are open_ valid =
    (short, (pieces, left, start, r, are, open_, refl), no_earlier_brace text start pieces left r are open_ valid)

-- a text that is cut to its end has no fault of its tokens
stuck_end : (left : List ℕ) → left ≡ [] → IsStuck left → (IsOpenQuote left → ⊥) × (IsStray left → ⊥)
stuck_end left e m = ((λ (q, inside, is, f, g). let h : [] ≡ q ∷ inside = sym e ∙ f in cc), (λ (b, after, f, g, h). let k : [] ≡ b ∷ after = sym e ∙ f in cc))

open_end : (pieces left : List ℕ) → pieces ++ left ≡ [] → IsOpenBrace left → ⊥
open_end [] left e (b, inside, f, g, h) = let k : [] ≡ b ∷ inside = sym e ∙ f in cc
open_end (c ∷ pieces) left e z = cc

cut_no_fault : (text : List ℕ) (tokens : List Token) → Cuts text tokens → (kind : Kind) (place : ℕ) → HasFault text kind place → ⊥
cut_no_fault text tokens cut UnclosedQuote place (left, (ts, reach, e), q) =
    let o = one_cut 0 text tokens ts [] left cut.whole reach over (quote q) in (stuck_end left (sym o.1) (quote q)).0 q
cut_no_fault text tokens cut UnclosedBrace place (pieces, left, start, (ts, reach, e), are, open_, at) =
    let o = one_cut 0 text tokens ts [] (pieces ++ left) cut.whole reach over (brace pieces left are open_) in open_end pieces left (sym o.1) open_
cut_no_fault text tokens cut StrayByte place (inl (left, (ts, reach, e), z)) =
    let o = one_cut 0 text tokens ts [] left cut.whole reach over (stray z) in (stuck_end left (sym o.1) (stray z)).1 z
cut_no_fault text tokens cut StrayByte place (inr v) =
    let e = utf8_valid_len-IsUtf8 text cut.utf8 in let f = utf8_valid_len-IsValidUpTo text place v in let g = v.short in omega (arith, e, f, g)
cut_no_fault text tokens cut TooLong place h = h
cut_no_fault text tokens cut Unexpected place h = h
cut_no_fault text tokens cut TooDeep place h = h
cut_no_fault text tokens cut UnknownName place h = h
cut_no_fault text tokens cut BadParameter place h = h
cut_no_fault text tokens cut BadAttribute place h = h
cut_no_fault text tokens cut BadTarget place h = h
cut_no_fault text tokens cut TooManyLimits place h = h
cut_no_fault text tokens cut BadPattern place h = h
cut_no_fault text tokens cut LargePattern place h = h

cut_no_token_fault : (text : List ℕ) (tokens : List Token) → Cuts text tokens → (kind : Kind) (place : ℕ) → IsTokenFault text kind place → ⊥
cut_no_token_fault text tokens cut TooLong place f = let e = f.0 in let g = cut.short in omega (arith, e, g)
cut_no_token_fault text tokens cut UnclosedQuote place f = cut_no_fault text tokens cut UnclosedQuote place f.1
cut_no_token_fault text tokens cut UnclosedBrace place f = cut_no_fault text tokens cut UnclosedBrace place f.1
cut_no_token_fault text tokens cut StrayByte place f = cut_no_fault text tokens cut StrayByte place f.1
cut_no_token_fault text tokens cut Unexpected place f = f.1
cut_no_token_fault text tokens cut TooDeep place f = f.1
cut_no_token_fault text tokens cut UnknownName place f = f.1
cut_no_token_fault text tokens cut BadParameter place f = f.1
cut_no_token_fault text tokens cut BadAttribute place f = f.1
cut_no_token_fault text tokens cut BadTarget place f = f.1
cut_no_token_fault text tokens cut TooManyLimits place f = f.1
cut_no_token_fault text tokens cut BadPattern place f = f.1
cut_no_token_fault text tokens cut LargePattern place f = f.1

split_at : (n : ℕ) (xs : List Symbol) → take n xs ++ drop n xs ≡ xs
split_at zero xs = refl
split_at (suc n) [] = refl
split_at (suc n) (x ∷ xs) = ap (λ k. x ∷ k) (split_at n xs)

-- the front of a text begins one
front_begins : (n i : ℕ) (xs : List Symbol) (raw : RawList) → IsList n xs raw → Begins n (take i xs)
front_begins n i xs raw r = (drop i xs, raw, subst (λ ks. IsList n ks raw) (sym (split_at i xs)) r)

-- the symbols of a text have no fault
list_no_stop : (kind : Kind) (xs : List Symbol) (i : ℕ) (raw : RawList) → IsList 32 xs raw → StopsAt kind xs i → ⊥
list_no_stop Unexpected xs i raw r stop = by_side (stop.stops 0)
  where
    by_side : ((i < length xs) × (Begins (32 + 0) (take (i + 1) xs) → ⊥)) ⊎ ((i ≡ length xs) × ((w : RawList) → IsList (32 + 0) xs w → ⊥)) → ⊥
    by_side (inl s) = s.1 (front_begins 32 (i + 1) xs raw r)
    by_side (inr s) = s.1 raw r
list_no_stop TooDeep xs i raw r stop = stop.1.stops (front_begins 32 (i + 1) xs raw r)
list_no_stop TooLong xs i raw r stop = stop
list_no_stop UnclosedQuote xs i raw r stop = stop
list_no_stop UnclosedBrace xs i raw r stop = stop
list_no_stop StrayByte xs i raw r stop = stop
list_no_stop UnknownName xs i raw r stop = stop
list_no_stop BadParameter xs i raw r stop = stop
list_no_stop BadAttribute xs i raw r stop = stop
list_no_stop BadTarget xs i raw r stop = stop
list_no_stop TooManyLimits xs i raw r stop = stop
list_no_stop BadPattern xs i raw r stop = stop
list_no_stop LargePattern xs i raw r stop = stop

reads_no_syntax_fault : (text : List ℕ) (raw : RawList) → Reads text raw → (kind : Kind) (place : ℕ) → IsSyntaxFault text kind place → ⊥
reads_no_syntax_fault text raw (ts, cut, r) kind place (us, i, cut2, stop, at) =
    let same = is_one_cut text us ts cut2 cut in
    list_no_stop kind (symbols_of text ts) i raw r (subst (λ ks. StopsAt kind (symbols_of text ks) i) same stop)

ok_no_err : {A : Type 0} (r : Result A TextFault) (x : A) (e : TextFault) → r ≡ Ok x → r ≡ Err e → ⊥
ok_no_err {A = A} r x e f g = let h : Ok x ≡ Err e = sym f ∙ g in cc

pub is_no_tree_at_fault : NoTreeAtFault
is_no_tree_at_fault text kind place tree (inl f) (raw, (ts, cut, r), fits) = cut_no_token_fault text ts cut kind place f
is_no_tree_at_fault text kind place tree (inr (inl f)) (raw, reads, fits) = reads_no_syntax_fault text raw reads kind place f
is_no_tree_at_fault text kind place tree (inr (inr (other, reads2, bad))) (raw, reads, (n, fits)) =
    let same = is_one_derivation text other raw reads2 reads in
    ok_no_err (fit raw) (tree, n) _ fits (subst (λ k. fit k ≡ Err (record { kind = kind; place = place })) same bad)

-- what stands before the place at which the text stops
front_of : (at : ℕ) (bytes : List ℕ) (ts : List Token) (left : List ℕ) → CutsUpTo at bytes ts left → (front : List ℕ) × (bytes ≡ front ++ left)
front_of at bytes [] left (gap, e, w) = (gap, e)
front_of at bytes (t ∷ ts) left (gap, s, after, e, w, from, to, k, more) =
    let f = front_of t.to after ts left more in
    (gap ++ (s ++ f.0), e ∙ ap (λ z. gap ++ (s ++ z)) f.1 ∙ ap (λ z. gap ++ z) (sym (append_assoc s f.0 left)) ∙ sym (append_assoc gap (s ++ f.0) left))

-- a byte of ASCII stands at the place
abbrev AsciiAt : List ℕ → ℕ → Type 0
AsciiAt text place = (front after : List ℕ) × (b : ℕ) × (text ≡ front ++ b ∷ after) × (length front ≡ place) × IsUtf8 (b ∷ [])

ascii : (b : ℕ) → IsUtf8 (b ∷ []) → (c : ℕ) → c ≡ b → IsUtf8 (c ∷ [])
ascii b good c e = subst (λ k. IsUtf8 (k ∷ [])) (sym e) good

quote_ascii : (q : ℕ) → is_quote q ≡ true → IsUtf8 (q ∷ [])
unfolding encode
quote_ascii q e = elim (quote_is q e) [ inl f ↦ ascii 39 (39 ∷ [], (refl, refl)) q f | inr f ↦ ascii 34 (34 ∷ [], (refl, refl)) q f ]

sigil_ascii : (b : ℕ) → (b == 37 || b == 36) ≡ true → IsUtf8 (b ∷ [])
unfolding encode
sigil_ascii b e = elim (sigil b e) [ inl f ↦ ascii 37 (37 ∷ [], (refl, refl)) b f | inr f ↦ ascii 36 (36 ∷ [], (refl, refl)) b f ]

take_front : (front after : List ℕ) (b : ℕ) → take (length front + 1) (front ++ b ∷ after) ≡ take (length front) (front ++ b ∷ after) ++ b ∷ []
take_front [] after b = refl
take_front (c ∷ front) after b =
    let e : length (c ∷ front) + 1 ≡ suc (length front + 1) = omega arith in
    ap (λ n. take n (c ∷ (front ++ b ∷ after))) e ∙ ap (λ k. c ∷ k) (take_front front after b)

no_bad_ascii : (text : List ℕ) (place : ℕ) → AsciiAt text place → IsValidUpTo text place → ⊥
no_bad_ascii text place (front, after, b, e, n, good) v =
    let whole = IsUtf8-append (take place text) (b ∷ []) v.front good in
    let same : take (place + 1) text ≡ take place text ++ b ∷ [] =
    ap (λ t. take (place + 1) t) e ∙ ap (λ k. take (k + 1) (front ++ b ∷ after)) (sym n) ∙ take_front front after b
    ∙ ap (λ k. take k (front ++ b ∷ after) ++ b ∷ []) n ∙ ap (λ t. take place t ++ b ∷ []) (sym e) in
    v.longest (place + 1) (omega arith) (subst IsUtf8 (sym same) whole)

-- the kind of the fault at which the text stops
abbrev kind_back : Option TokenKind → Kind
kind_back (Some Quoted) = UnclosedQuote
kind_back (Some Word) = UnclosedBrace
kind_back other = StrayByte

-- a fault is where the text stops, or where it is no more UTF-8
abbrev Cause : List ℕ → Kind → ℕ → Type 0
Cause text kind place =
    ((start : ℕ) × (left : List ℕ) × Reaches text start left × IsStuck left × (kind_back (kind_at left) ≡ kind) × ((kind ≡ StrayByte) ⊎ AsciiAt text place))
    ⊎ ((kind ≡ StrayByte) × IsValidUpTo text place)

ascii_at : (text : List ℕ) (place : ℕ) (front pieces after : List ℕ) (b : ℕ) (left : List ℕ) → text ≡ front ++ (pieces ++ left) → left ≡ b ∷ after → IsUtf8 (b ∷ []) →
    length text ≡ place + length left → AsciiAt text place
ascii_at text place front pieces after b left e f good n =
    let whole : text ≡ (front ++ pieces) ++ b ∷ after = e ∙ sym (append_assoc front pieces left) ∙ ap (λ k. (front ++ pieces) ++ k) f in
    let m : length text ≡ length (front ++ pieces) + length left = ap length (e ∙ sym (append_assoc front pieces left)) ∙ length-append (front ++ pieces) left in
    (front ++ pieces, after, b, whole, omega (arith, n, m), good)

cause_of : (text : List ℕ) (kind : Kind) (place : ℕ) → HasFault text kind place → Cause text kind place
cause_of text UnclosedQuote place (left, (ts, cut, n), (q, inside, is, f, g)) =
    let z = front_of 0 text ts left cut in
    inl (
      place,
      left,
      (ts, cut, n),
      quote (q, inside, is, f, g),
      ap kind_back (ap kind_at f ∙ quote_kind q inside is),
      inr (ascii_at text place z.0 [] inside q left z.1 f (quote_ascii q is) n),
    )
cause_of text UnclosedBrace place (pieces, left, start, (ts, cut, n), are, (b, inside, f, opens, still), at) =
    let z = front_of 0 text ts (pieces ++ left) cut in
    let m = length-append pieces left in
    inl (
      start,
      pieces ++ left,
      (ts, cut, n),
      brace pieces left are (b, inside, f, opens, still),
      ap kind_back (open_kind pieces left are (b, inside, f, opens, still)),
      inr (ascii_at text place z.0 pieces inside b left z.1 f (sigil_ascii b (and_left _ _ opens)) (omega (arith, n, m, at))),
    )
cause_of text StrayByte place (inl (left, r, s)) = inl (place, left, r, stray s, ap kind_back (stray_kind left s), inl refl)
cause_of text StrayByte place (inr v) = inr (refl, v)
cause_of text TooLong place h = absurd h
cause_of text Unexpected place h = absurd h
cause_of text TooDeep place h = absurd h
cause_of text UnknownName place h = absurd h
cause_of text BadParameter place h = absurd h
cause_of text BadAttribute place h = absurd h
cause_of text BadTarget place h = absurd h
cause_of text TooManyLimits place h = absurd h
cause_of text BadPattern place h = absurd h
cause_of text LargePattern place h = absurd h

one_kind : (text : List ℕ) (kind other : Kind) (place : ℕ) → Cause text kind place → Cause text other place → kind ≡ other
one_kind text kind other place (inl (s, l, r, m, k, a)) (inl (t, n, q, o, j, b)) =
    sym k ∙ ap (λ z. kind_back (kind_at z)) (one_stop text s t l n r q m o).1 ∙ j
one_kind text kind other place (inl (s, l, r, m, k, inl a)) (inr b) = a ∙ sym b.0
one_kind text kind other place (inl (s, l, r, m, k, inr a)) (inr b) = absurd (no_bad_ascii text place a b.1)
one_kind text kind other place (inr a) (inl (t, n, q, o, j, inl b)) = a.0 ∙ sym b
one_kind text kind other place (inr a) (inl (t, n, q, o, j, inr b)) = absurd (no_bad_ascii text place b a.1)
one_kind text kind other place (inr a) (inr b) = a.0 ∙ sym b.0

-- a fault of the tokens: the text is too long, or this is the least place
abbrev Parts : List ℕ → Kind → ℕ → Type 0
Parts text kind place =
    ((kind ≡ TooLong) × (65536 < length text) × (place ≡ 65536))
    ⊎ ((length text ≤ 65536) × HasFault text kind place × ((other : Kind) (earlier : ℕ) → HasFault text other earlier → place ≤ earlier))

parts_of : (text : List ℕ) (kind : Kind) (place : ℕ) → IsTokenFault text kind place → Parts text kind place
parts_of text TooLong place f = inl (refl, f.0, f.1)
parts_of text UnclosedQuote place f = inr f
parts_of text UnclosedBrace place f = inr f
parts_of text StrayByte place f = inr f
parts_of text Unexpected place f = inr f
parts_of text TooDeep place f = inr f
parts_of text UnknownName place f = inr f
parts_of text BadParameter place f = inr f
parts_of text BadAttribute place f = inr f
parts_of text BadTarget place f = inr f
parts_of text TooManyLimits place f = inr f
parts_of text BadPattern place f = inr f
parts_of text LargePattern place f = inr f

one_token_fault : (text : List ℕ) (kind other : Kind) (place elsewhere : ℕ) → Parts text kind place → Parts text other elsewhere → (kind ≡ other) × (place ≡ elsewhere)
one_token_fault text kind other place elsewhere (inl a) (inl b) = (a.0 ∙ sym b.0, a.2 ∙ sym b.2)
one_token_fault text kind other place elsewhere (inl a) (inr b) = absurd (let x = a.1 in let y = b.0 in omega (arith, x, y))
one_token_fault text kind other place elsewhere (inr a) (inl b) = absurd (let x = b.1 in let y = a.0 in omega (arith, x, y))
one_token_fault text kind other place elsewhere (inr a) (inr b) =
    let x = a.2 other elsewhere b.1 in let y = b.2 kind place a.1 in
    let same : elsewhere ≡ place = omega (arith, x, y) in
    (one_kind text kind other place (cause_of text kind place a.1) (cause_of text other place (subst (HasFault text other) same b.1)), sym same)

-- the first of two parts begins a text where both do
begins_front : (n : ℕ) (xs ys : List Symbol) → Begins n (xs ++ ys) → Begins n xs
begins_front n xs ys (rest, raw, r) = (ys ++ rest, raw, subst (λ k. IsList n k raw) (append_assoc xs ys rest) r)

begins_shorter : (n i j : ℕ) (xs : List Symbol) → i ≤ j → Begins n (take j xs) → Begins n (take i xs)
begins_shorter n i j xs le b =
    let e : j ≡ i + (j - i) = omega (arith, le) in
    begins_front n (take i xs) (take (j - i) (drop i xs)) (subst (λ k. Begins n k) (ap (λ k. take k xs) e ∙ take-add i (j - i) xs) b)

abbrev Stop : Kind → List Symbol → ℕ → Type 0
Stop kind xs i = ((kind ≡ Unexpected) × IsUnexpected 32 xs i) ⊎ ((kind ≡ TooDeep) × (i < length xs) × IsTooDeep 32 xs i)

stop_of : (kind : Kind) (xs : List Symbol) (i : ℕ) → StopsAt kind xs i → Stop kind xs i
stop_of Unexpected xs i s = inl (refl, s)
stop_of TooDeep xs i s = inr (refl, s.0, s.1)
stop_of TooLong xs i s = absurd s
stop_of UnclosedQuote xs i s = absurd s
stop_of UnclosedBrace xs i s = absurd s
stop_of StrayByte xs i s = absurd s
stop_of UnknownName xs i s = absurd s
stop_of BadParameter xs i s = absurd s
stop_of BadAttribute xs i s = absurd s
stop_of BadTarget xs i s = absurd s
stop_of TooManyLimits xs i s = absurd s
stop_of BadPattern xs i s = absurd s
stop_of LargePattern xs i s = absurd s

stop_before : (kind : Kind) (xs : List Symbol) (i : ℕ) → Stop kind xs i → Begins 32 (take i xs)
stop_before kind xs i (inl s) = s.1.before
stop_before kind xs i (inr s) = s.2.before

-- with the next symbol they begin no text with 32 levels
abbrev Blocked : List Symbol → ℕ → Type 0
Blocked xs i = ((i < length xs) × (Begins 32 (take (i + 1) xs) → ⊥)) ⊎ (i ≡ length xs)

stop_blocks : (kind : Kind) (xs : List Symbol) (i : ℕ) → Stop kind xs i → Blocked xs i
stop_blocks kind xs i (inr s) = inl (s.1, s.2.stops)
stop_blocks kind xs i (inl s) = by_side (s.1.stops 0)
  where
    by_side : ((i < length xs) × (Begins (32 + 0) (take (i + 1) xs) → ⊥)) ⊎ ((i ≡ length xs) × ((w : RawList) → IsList (32 + 0) xs w → ⊥)) → Blocked xs i
    by_side (inl t) = inl (t.0, t.1)
    by_side (inr t) = inr t.0

not_later : (xs : List Symbol) (i j : ℕ) → Blocked xs i → Blocked xs j → Begins 32 (take j xs) → i < j → ⊥
not_later xs i j (inl s) b begins lt = s.1 (begins_shorter 32 (i + 1) j xs (omega (arith, lt)) begins)
not_later xs i j (inr e) (inl t) begins lt = let u = t.0 in omega (arith, e, lt, u)
not_later xs i j (inr e) (inr f) begins lt = omega (arith, e, f, lt)

same_stop : (kind other : Kind) (xs : List Symbol) (i j : ℕ) → Stop kind xs i → Stop other xs j → i ≡ j
same_stop kind other xs i j s t = by_test (nat_lt i j) (nat_lt j i) refl refl
  where
    by_test : (a b : Bool) → nat_lt i j ≡ a → nat_lt j i ≡ b → i ≡ j
    by_test true b e f = absurd (not_later xs i j (stop_blocks kind xs i s) (stop_blocks other xs j t) (stop_before other xs j t) (search rules))
    by_test false true e f = absurd (not_later xs j i (stop_blocks other xs j t) (stop_blocks kind xs i s) (stop_before kind xs i s) (search rules))
    by_test false false e f = search rules

-- at one symbol a text is not both
not_both : (xs : List Symbol) (i : ℕ) → IsUnexpected 32 xs i → i < length xs → IsTooDeep 32 xs i → ⊥
not_both xs i u lt d = by_side (u.stops 1)
  where
    by_side : ((i < length xs) × (Begins (32 + 1) (take (i + 1) xs) → ⊥)) ⊎ ((i ≡ length xs) × ((w : RawList) → IsList (32 + 1) xs w → ⊥)) → ⊥
    by_side (inl t) = t.1 d.deeper
    by_side (inr t) = let e = t.0 in omega (arith, e, lt)

same_kind : (kind other : Kind) (xs : List Symbol) (i : ℕ) → Stop kind xs i → Stop other xs i → kind ≡ other
same_kind kind other xs i (inl s) (inl t) = s.0 ∙ sym t.0
same_kind kind other xs i (inr s) (inr t) = s.0 ∙ sym t.0
same_kind kind other xs i (inl s) (inr t) = absurd (not_both xs i s.1 t.1 t.2)
same_kind kind other xs i (inr s) (inl t) = absurd (not_both xs i t.1 s.1 s.2)

one_syntax_fault : (text : List ℕ) (kind other : Kind) (place elsewhere : ℕ) → IsSyntaxFault text kind place → IsSyntaxFault text other elsewhere →
    (kind ≡ other) × (place ≡ elsewhere)
one_syntax_fault text kind other place elsewhere (ts, i, cut, stop, at) (us, j, cut2, stop2, at2) =
    let same = is_one_cut text us ts cut2 cut in
    let s = stop_of kind (symbols_of text ts) i stop in
    let t = stop_of other (symbols_of text ts) j (subst (λ ks. StopsAt other (symbols_of text ks) j) same stop2) in
    let e = same_stop kind other (symbols_of text ts) i j s t in (
      same_kind kind other (symbols_of text ts) i s (subst (λ k. Stop other (symbols_of text ts) k) (sym e) t),
      at ∙ ap (λ k. place_at text (symbols_of text ts) k) e ∙ ap (λ ks. place_at text (symbols_of text ks) j) (sym same) ∙ sym at2,
    )

same_err : {A : Type 0} (r : Result A TextFault) (e f : TextFault) → r ≡ Err e → r ≡ Err f → e ≡ f
same_err {A = A} r e f p q = let h : Err e ≡ Err f = sym p ∙ q in cc

pub is_one_fault : OneFault
is_one_fault text kind other place elsewhere (inl f) (inl g) =
    one_token_fault text kind other place elsewhere (parts_of text kind place f) (parts_of text other elsewhere g)
is_one_fault text kind other place elsewhere (inl f) (inr (inl (ts, i, cut, stop, at))) = absurd (cut_no_token_fault text ts cut kind place f)
is_one_fault text kind other place elsewhere (inl f) (inr (inr (raw, (ts, cut, r), g))) = absurd (cut_no_token_fault text ts cut kind place f)
is_one_fault text kind other place elsewhere (inr (inl (ts, i, cut, stop, at))) (inl g) = absurd (cut_no_token_fault text ts cut other elsewhere g)
is_one_fault text kind other place elsewhere (inr (inr (raw, (ts, cut, r), f))) (inl g) = absurd (cut_no_token_fault text ts cut other elsewhere g)
is_one_fault text kind other place elsewhere (inr (inl f)) (inr (inl g)) = one_syntax_fault text kind other place elsewhere f g
is_one_fault text kind other place elsewhere (inr (inl f)) (inr (inr (raw, r, g))) = absurd (reads_no_syntax_fault text raw r kind place f)
is_one_fault text kind other place elsewhere (inr (inr (raw, r, f))) (inr (inl g)) = absurd (reads_no_syntax_fault text raw r other elsewhere g)
is_one_fault text kind other place elsewhere (inr (inr (raw, r, f))) (inr (inr (raw2, r2, g))) =
    let same = is_one_derivation text raw2 raw r2 r in
    let e = same_err (fit raw) (record { kind = kind; place = place }) (record { kind = other; place = elsewhere }) f
    (subst (λ k. fit k ≡ Err (record { kind = other; place = elsewhere })) same g) in
    (ap (λ (k : TextFault). k.kind) e, ap (λ (k : TextFault). k.place) e)
