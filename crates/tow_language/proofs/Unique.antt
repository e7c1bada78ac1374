-- Symbols have at most one derivation.
use Rattle.std.specs.Prelude.{◌≡◌, ◌⊎◌, ℕ, Bool, true, false, not, ◌||◌, List, [], ◌∷◌, codes, bytes_eq}
use Rattle.std.proofs.Common.{refl, sym, ◌∙◌, ap, ap₂}
use mathlib.Core.Logic.{inl, inr}
use Rattle.tow_language.specs.declared.token.TokenKind.{TokenKind}
use Rattle.tow_language.specs.declared.token.TokenKind.TheVariants.{Newline, Semi, Comma, Equals, OpenRound, CloseRound, OpenSquare, CloseSquare, OpenBrace, CloseBrace, Arrow, Quoted, Word}
use Rattle.tow_language.specs.Raw.{Written, RawValue, one, array, RawParameters, unnamed, named, RawCall, RawPredicate, alone, or_more, RawConjunction, single, and_more, RawFactor, test, negated, grouped, RawTarget, handler, restart, done, block, RawStatement, act, when, when_else, RawList, none, more}
use Rattle.tow_language.specs.Symbols.{Sign, word, quoted, mark, Symbol}
use Rattle.tow_language.specs.Grammar.{Rest, AtEnd, Next, Mark, Keyword, WordThen, TextThen, Commas, ValueThen, PairThen, ParametersThen, BracketsThen, is_reserved, CallThen, PredicateThen, ConjunctionThen, FactorThen, SeparatorThen, SeparatorsThen, MaybeArrow, is_block, ends_in_brace, Between, TargetThen, StatementThen, ListThen}

-- some symbols are what both say
abbrev pub Meet : Rest → Rest → Type 0
Meet L M = (xs : List Symbol) × L xs × M xs

-- a sign that is one and the other, though a test tells them apart
clash : (f : Sign → Bool) (s a b : Sign) → s ≡ a → s ≡ b → f a ≡ true → f b ≡ false → ⊥
clash f s a b p q t u = let e : true ≡ false = sym t ∙ ap f (sym p ∙ q) ∙ u in cc

-- nothing that begins with such a sign
abbrev pub Never : (Sign → Bool) → Rest → Type 0
Never bad L = (x : Symbol) (xs : List Symbol) → bad x.sign ≡ true → L (x ∷ xs) → ⊥

next_never : (bad : Sign → Bool) (s : Sign) (L : Rest) → bad s ≡ false → Never bad (Next s L)
next_never bad s L off x xs on n = let e : true ≡ false = sym on ∙ ap bad n.0 ∙ off in cc

pub meet_next : (s : Sign) (L M : Rest) (xs : List Symbol) → Next s L xs → Next s M xs → Meet L M
meet_next s L M [] a b = absurd a
meet_next s L M (x ∷ xs) a b = (xs, a.1, b.1)

-- texts and values
one_written : (v w : Written) → v.bytes ≡ w.bytes → v.place ≡ w.place → v ≡ w
one_written v w e f = ap₂ (λ (b : List ℕ) (p : ℕ). let r : Written = record { bytes = b; place = p } in r) e f

same_word : (a b : List ℕ) → word a ≡ word b → a ≡ b
same_word a b e = cc

same_quoted : (a b : List ℕ) → quoted a ≡ quoted b → a ≡ b
same_quoted a b e = cc

one_word : (v w : Written) (L M : Rest) (xs : List Symbol) → WordThen v L xs → WordThen w M xs → (v ≡ w) × Meet L M
one_word v w L M [] a b = absurd a
one_word v w L M (x ∷ xs) a b = (one_written v w (same_word _ _ (sym a.0 ∙ b.0)) (sym a.1 ∙ b.1), (xs, a.2, b.2))

one_text : (v w : Written) (L M : Rest) (xs : List Symbol) → TextThen v L xs → TextThen w M xs → (v ≡ w) × Meet L M
one_text v w L M [] (inl a) b = absurd a
one_text v w L M [] (inr a) b = absurd a
one_text v w L M (x ∷ xs) (inl a) (inl b) = (one_written v w (same_word _ _ (sym a.0 ∙ b.0)) (sym a.1 ∙ b.1), (xs, a.2, b.2))
one_text v w L M (x ∷ xs) (inl a) (inr b) = absurd (let e : word v.bytes ≡ quoted w.bytes = sym a.0 ∙ b.0 in cc)
one_text v w L M (x ∷ xs) (inr a) (inl b) = absurd (let e : quoted v.bytes ≡ word w.bytes = sym a.0 ∙ b.0 in cc)
one_text v w L M (x ∷ xs) (inr a) (inr b) = (one_written v w (same_quoted _ _ (sym a.0 ∙ b.0)) (sym a.1 ∙ b.1), (xs, a.2, b.2))

-- parts with commas between, up to a mark that begins no part
module _ {A : Type 0} (part : A → Rest → Rest) (close : TokenKind)
    (one_part : (a b : A) (L M : Rest) (xs : List Symbol) → part a L xs → part b M xs → (a ≡ b) × Meet L M)
    (no_close : (a : A) (L M : Rest) (xs : List Symbol) → part a L xs → Mark close M xs → ⊥)
    (apart : (L M : Rest) (xs : List Symbol) → Mark Comma L xs → Mark close M xs → ⊥) where
  one_commas : (cs bs : List A) (L M : Rest) (xs : List Symbol) → Commas part cs (Mark close L) xs → Commas part bs (Mark close M) xs → (cs ≡ bs) × Meet L M
  one_commas [] [] L M xs a b = (refl, meet_next (mark close) L M xs a b)
  one_commas [] (b ∷ []) L M xs p q = absurd (no_close b _ L xs q p)
  one_commas [] (b ∷ c ∷ bs) L M xs p q = absurd (no_close b _ L xs q p)
  one_commas (a ∷ []) [] L M xs p q = absurd (no_close a _ M xs p q)
  one_commas (a ∷ c ∷ cs) [] L M xs p q = absurd (no_close a _ M xs p q)
  one_commas (a ∷ []) (b ∷ []) L M xs p q =
      let o = one_part a b _ _ xs p q in
      (ap (λ k. k ∷ []) o.0, meet_next (mark close) L M o.1.0 o.1.1 o.1.2)
  one_commas (a ∷ []) (b ∷ c ∷ bs) L M xs p q =
      let o = one_part a b _ _ xs p q in absurd (apart _ L o.1.0 o.1.2 o.1.1)
  one_commas (a ∷ c ∷ cs) (b ∷ []) L M xs p q =
      let o = one_part a b _ _ xs p q in absurd (apart _ M o.1.0 o.1.1 o.1.2)
  one_commas (a ∷ c ∷ cs) (b ∷ d ∷ bs) L M xs p q =
      let o = one_part a b _ _ xs p q in
      let m = meet_next (mark Comma) _ _ o.1.0 o.1.1 o.1.2 in
      let r = one_commas (c ∷ cs) (d ∷ bs) L M m.0 m.1 m.2 in
      (ap₂ (λ k ks. k ∷ ks) o.0 r.0, r.1)

-- two marks at one place
two_marks : (j k : TokenKind) (L M : Rest) (xs : List Symbol) → (mark j ≡ mark k → ⊥) → Mark j L xs → Mark k M xs → ⊥
two_marks j k L M [] differ a b = a
two_marks j k L M (x ∷ xs) differ a b = differ (sym a.0 ∙ b.0)

text_no_mark : (w : Written) (k : TokenKind) (L M : Rest) (xs : List Symbol) → TextThen w L xs → Mark k M xs → ⊥
text_no_mark w k L M [] (inl a) b = a
text_no_mark w k L M [] (inr a) b = a
text_no_mark w k L M (x ∷ xs) (inl a) b = let e : word w.bytes ≡ mark k = sym a.0 ∙ b.0 in cc
text_no_mark w k L M (x ∷ xs) (inr a) b = let e : quoted w.bytes ≡ mark k = sym a.0 ∙ b.0 in cc

word_no_mark : (w : Written) (k : TokenKind) (L M : Rest) (xs : List Symbol) → WordThen w L xs → Mark k M xs → ⊥
word_no_mark w k L M xs a b = text_no_mark w k L M xs (inl a) b

one_texts : (vs ws : List Written) (L M : Rest) (xs : List Symbol) → Commas TextThen vs (Mark CloseBrace L) xs → Commas TextThen ws (Mark CloseBrace M) xs → (vs ≡ ws) × Meet L M
one_texts = one_commas TextThen CloseBrace one_text (λ w L M. text_no_mark w CloseBrace L M) (λ L M xs. two_marks Comma CloseBrace L M xs (λ e. cc))

one_value : (v w : RawValue) (L M : Rest) (xs : List Symbol) → ValueThen v L xs → ValueThen w M xs → (v ≡ w) × Meet L M
one_value (one v) (one w) L M xs a b = let o = one_text v w L M xs a b in (ap one o.0, o.1)
one_value (one v) (array p ws) L M [] a b = absurd b
one_value (one v) (array p ws) L M (x ∷ xs) a b = absurd (text_no_mark v OpenBrace L (Commas TextThen ws (Mark CloseBrace M)) (x ∷ xs) a (b.0, b.2))
one_value (array p vs) (one w) L M [] a b = absurd a
one_value (array p vs) (one w) L M (x ∷ xs) a b = absurd (text_no_mark w OpenBrace M (Commas TextThen vs (Mark CloseBrace L)) (x ∷ xs) b (a.0, a.2))
one_value (array p vs) (array q ws) L M [] a b = absurd a
one_value (array p vs) (array q ws) L M (x ∷ xs) a b =
    let o = one_texts vs ws L M xs a.2 b.2 in (ap₂ array (sym a.1 ∙ b.1) o.0, o.1)

-- a value begins with no mark but an opening brace
value_no_mark : (v : RawValue) (k : TokenKind) → (mark OpenBrace ≡ mark k → ⊥) → (L M : Rest) (xs : List Symbol) → ValueThen v L xs → Mark k M xs → ⊥
value_no_mark (one w) k differ L M xs a b = text_no_mark w k L M xs a b
value_no_mark (array p ws) k differ L M [] a b = b
value_no_mark (array p ws) k differ L M (x ∷ xs) a b = differ (sym a.0 ∙ b.0)

one_pair : (p q : Written × RawValue) (L M : Rest) (xs : List Symbol) → PairThen p L xs → PairThen q M xs → (p ≡ q) × Meet L M
one_pair p q L M xs a b =
    let o = one_word p.0 q.0 _ _ xs a b in
    let m = meet_next (mark Equals) _ _ o.1.0 o.1.1 o.1.2 in
    let r = one_value p.1 q.1 L M m.0 m.1 m.2 in
    (ap₂ (λ (w : Written) (v : RawValue). (w, v)) o.0 r.0, r.1)

-- the parameters up to a closing bracket
module _ (close : TokenKind) (braces : mark OpenBrace ≡ mark close → ⊥) (comma : mark Comma ≡ mark close → ⊥) (equals : mark Equals ≡ mark close → ⊥) where
  -- a value that is no name
  no_name : (v : RawValue) (p : Written × RawValue) (L M : Rest) (xs : List Symbol) → ValueThen v L xs → PairThen p M xs →
      ((ys : List Symbol) → L ys → Mark Equals (ValueThen p.1 M) ys → ⊥) → ⊥
  no_name (one w) p L M [] a b never = b
  no_name (one w) p L M (x ∷ xs) (inl a) b never = never xs a.2 b.2
  no_name (one w) p L M (x ∷ xs) (inr a) b never = let e : quoted w.bytes ≡ word p.0.bytes = sym a.0 ∙ b.0 in cc
  no_name (array q ws) p L M [] a b never = b
  no_name (array q ws) p L M (x ∷ xs) a b never = word_no_mark p.0 OpenBrace (Mark Equals (ValueThen p.1 M)) (Commas TextThen ws (Mark CloseBrace L)) (x ∷ xs) b (a.0, a.2)

  first_name : (p : Written × RawValue) (ps : List (Written × RawValue)) (M : Rest) (xs : List Symbol) →
      Commas PairThen (p ∷ ps) M xs → (N : Rest) × PairThen p N xs
  first_name p [] M xs b = (M, b)
  first_name p (q ∷ ps) M xs b = (_, b)

  no_names : (vs : List RawValue) (p : Written × RawValue) (ps : List (Written × RawValue)) (L M : Rest) (xs : List Symbol) →
      Commas ValueThen vs (Mark close L) xs → Commas PairThen (p ∷ ps) M xs → ⊥
  no_names [] p ps L M xs a b = let f = first_name p ps M xs b in word_no_mark p.0 close _ L xs f.1 a
  no_names (v ∷ []) p ps L M xs a b =
      let f = first_name p ps M xs b in
      no_name v p _ f.0 xs a f.1 (λ ys c d. two_marks Equals close _ L ys equals d c)
  no_names (v ∷ w ∷ vs) p ps L M xs a b =
      let f = first_name p ps M xs b in
      no_name v p _ f.0 xs a f.1 (λ ys c d. two_marks Equals Comma _ _ ys (λ e. cc) d c)

  one_parameters : (a b : RawParameters) (L M : Rest) (xs : List Symbol) → ParametersThen a (Mark close L) xs → ParametersThen b (Mark close M) xs → (a ≡ b) × Meet L M
  one_parameters (unnamed vs) (unnamed ws) L M xs a b =
      let o = one_commas ValueThen close one_value (λ v. value_no_mark v close braces) (λ N K ys. two_marks Comma close N K ys comma) vs ws L M xs a b in
      (ap unnamed o.0, o.1)
  one_parameters (unnamed vs) (named []) L M xs a b = absurd b
  one_parameters (unnamed vs) (named (p ∷ ps)) L M xs a b = absurd (no_names vs p ps L _ xs a b)
  one_parameters (named []) b L M xs p q = absurd p
  one_parameters (named (p ∷ ps)) (unnamed ws) L M xs a b = absurd (no_names ws p ps M _ xs b a)
  one_parameters (named (p ∷ ps)) (named []) L M xs a b = absurd b
  one_parameters (named (p ∷ ps)) (named (q ∷ qs)) L M xs a b =
      let o = one_commas PairThen close one_pair (λ r N K ys. word_no_mark r.0 close _ K ys) (λ N K ys. two_marks Comma close N K ys comma) (p ∷ ps) (q ∷ qs) L M xs a b in
      (ap named o.0, o.1)

-- the signs that would go on a call, a conjunction and a predicate
abbrev pub opens : Sign → Bool
opens (mark OpenRound) = true
opens (mark OpenSquare) = true
opens s = false

abbrev pub is_keyword : List ℕ → Sign → Bool
is_keyword w (word bytes) = bytes_eq bytes w
is_keyword w s = false

abbrev pub goes_on_and : Sign → Bool
goes_on_and s = opens s || is_keyword (codes "and") s

abbrev pub goes_on_or : Sign → Bool
goes_on_or s = goes_on_and s || is_keyword (codes "or") s

or_left : (a b : Bool) → a ≡ true → (a || b) ≡ true
or_left true b e = refl
or_left false b e = absurd cc

or_right : (a b : Bool) → b ≡ true → (a || b) ≡ true
or_right true b e = refl
or_right false b e = e

never_and : (L : Rest) → Never goes_on_or L → Never goes_on_and L
never_and L never x xs e = never x xs (or_left (goes_on_and x.sign) _ e)

never_opens : (L : Rest) → Never goes_on_and L → Never opens L
never_opens L never x xs e = never x xs (or_left (opens x.sign) _ e)

-- the sign at the front is the keyword, and then L does not hold
no_keyword : (bad : Sign → Bool) (w : List ℕ) → bad (word w) ≡ true → (L M : Rest) → Never bad L → (xs : List Symbol) → L xs → Keyword w M xs → ⊥
no_keyword bad w on L M never [] a b = b
no_keyword bad w on L M never (x ∷ xs) a b = never x xs (ap bad b.0 ∙ on) a

no_open : (k : TokenKind) → opens (mark k) ≡ true → (L M : Rest) → Never opens L → (xs : List Symbol) → L xs → Mark k M xs → ⊥
no_open k on L M never [] a b = b
no_open k on L M never (x ∷ xs) a b = never x xs (ap opens b.0 ∙ on) a

one_brackets : (a b : RawParameters) (L M : Rest) → Never opens L → Never opens M → (xs : List Symbol) → BracketsThen a L xs → BracketsThen b M xs → (a ≡ b) × Meet L M
one_brackets a b L M nl nm xs (inl p) (inl q) = (p.0 ∙ sym q.0, (xs, p.1, q.1))
one_brackets a b L M nl nm xs (inl p) (inr (inl q)) = absurd (no_open OpenRound refl L _ nl xs p.1 q)
one_brackets a b L M nl nm xs (inl p) (inr (inr q)) = absurd (no_open OpenSquare refl L _ nl xs p.1 q)
one_brackets a b L M nl nm xs (inr (inl p)) (inl q) = absurd (no_open OpenRound refl M _ nm xs q.1 p)
one_brackets a b L M nl nm xs (inr (inr p)) (inl q) = absurd (no_open OpenSquare refl M _ nm xs q.1 p)
one_brackets a b L M nl nm xs (inr (inl p)) (inr (inr q)) = absurd (two_marks OpenRound OpenSquare _ _ xs (λ e. cc) p q)
one_brackets a b L M nl nm xs (inr (inr p)) (inr (inl q)) = absurd (two_marks OpenSquare OpenRound _ _ xs (λ e. cc) p q)
one_brackets a b L M nl nm xs (inr (inl p)) (inr (inl q)) =
    let m = meet_next (mark OpenRound) _ _ xs p q in
    one_parameters CloseRound (λ e. cc) (λ e. cc) (λ e. cc) a b L M m.0 m.1 m.2
one_brackets a b L M nl nm xs (inr (inr p)) (inr (inr q)) =
    let m = meet_next (mark OpenSquare) _ _ xs p q in
    one_parameters CloseSquare (λ e. cc) (λ e. cc) (λ e. cc) a b L M m.0 m.1 m.2

one_call : (a b : RawCall) (L M : Rest) → Never opens L → Never opens M → (xs : List Symbol) → CallThen a L xs → CallThen b M xs → (a ≡ b) × Meet L M
one_call a b L M nl nm xs p q =
    let o = one_word a.name b.name _ _ xs p.1 q.1 in
    let r = one_brackets a.parameters b.parameters L M nl nm o.1.0 o.1.1 o.1.2 in
    (ap₂ (λ (n : Written) (ps : RawParameters). let c : RawCall = record { name = n; parameters = ps } in c) o.0 r.0, r.1)

-- a call begins with a name that is not reserved
pub call_no_keyword : (c : RawCall) (w : List ℕ) → is_reserved w ≡ true → (L M : Rest) (xs : List Symbol) → CallThen c L xs → Keyword w M xs → ⊥
call_no_keyword c w on L M [] a b = b
call_no_keyword c w on L M (x ∷ xs) a b =
    let same : c.name.bytes ≡ w = same_word _ _ (sym a.1.0 ∙ b.0) in
    let e : false ≡ true = sym a.0 ∙ ap is_reserved same ∙ on in cc

call_no_mark : (c : RawCall) (k : TokenKind) (L M : Rest) (xs : List Symbol) → CallThen c L xs → Mark k M xs → ⊥
call_no_mark c k L M xs a b = word_no_mark c.name k _ M xs a.1 b

keyword_no_mark : (w : List ℕ) (k : TokenKind) (L M : Rest) (xs : List Symbol) → Keyword w L xs → Mark k M xs → ⊥
keyword_no_mark w k L M [] a b = b
keyword_no_mark w k L M (x ∷ xs) a b = let e : word w ≡ mark k = sym a.0 ∙ b.0 in cc

or_never : (L : Rest) → Never goes_on_and (Keyword (codes "or") L)
or_never L = next_never goes_on_and (word (codes "or")) L refl

and_never : (L : Rest) → Never opens (Keyword (codes "and") L)
and_never L = next_never opens (word (codes "and")) L refl

close_never : (L : Rest) → Never goes_on_or (Mark CloseRound L)
close_never L = next_never goes_on_or (mark CloseRound) L refl

mutual
  pub one_predicate : (p q : RawPredicate) (L M : Rest) → Never goes_on_or L → Never goes_on_or M → (xs : List Symbol) →
      PredicateThen p L xs → PredicateThen q M xs → (p ≡ q) × Meet L M
  one_predicate (alone c) (alone d) L M nl nm xs a b =
      let o = one_conjunction c d L M (never_and L nl) (never_and M nm) xs a b in (ap alone o.0, o.1)
  one_predicate (alone c) (or_more d q) L M nl nm xs a b =
      let o = one_conjunction c d L _ (never_and L nl) (or_never _) xs a b in absurd (no_keyword goes_on_or (codes "or") refl L _ nl o.1.0 o.1.1 o.1.2)
  one_predicate (or_more c p) (alone d) L M nl nm xs a b =
      let o = one_conjunction c d _ M (or_never _) (never_and M nm) xs a b in absurd (no_keyword goes_on_or (codes "or") refl M _ nm o.1.0 o.1.2 o.1.1)
  one_predicate (or_more c p) (or_more d q) L M nl nm xs a b =
      let o = one_conjunction c d _ _ (or_never _) (or_never _) xs a b in
      let m = meet_next (word (codes "or")) _ _ o.1.0 o.1.1 o.1.2 in
      let r = one_predicate p q L M nl nm m.0 m.1 m.2 in (ap₂ or_more o.0 r.0, r.1)

  pub one_conjunction : (c d : RawConjunction) (L M : Rest) → Never goes_on_and L → Never goes_on_and M → (xs : List Symbol) →
      ConjunctionThen c L xs → ConjunctionThen d M xs → (c ≡ d) × Meet L M
  one_conjunction (single f) (single g) L M nl nm xs a b =
      let o = one_factor f g L M (never_opens L nl) (never_opens M nm) xs a b in (ap single o.0, o.1)
  one_conjunction (single f) (and_more g d) L M nl nm xs a b =
      let o = one_factor f g L _ (never_opens L nl) (and_never _) xs a b in absurd (no_keyword goes_on_and (codes "and") refl L _ nl o.1.0 o.1.1 o.1.2)
  one_conjunction (and_more f c) (single g) L M nl nm xs a b =
      let o = one_factor f g _ M (and_never _) (never_opens M nm) xs a b in absurd (no_keyword goes_on_and (codes "and") refl M _ nm o.1.0 o.1.2 o.1.1)
  one_conjunction (and_more f c) (and_more g d) L M nl nm xs a b =
      let o = one_factor f g _ _ (and_never _) (and_never _) xs a b in
      let m = meet_next (word (codes "and")) _ _ o.1.0 o.1.1 o.1.2 in
      let r = one_conjunction c d L M nl nm m.0 m.1 m.2 in (ap₂ and_more o.0 r.0, r.1)

  pub one_factor : (f g : RawFactor) (L M : Rest) → Never opens L → Never opens M → (xs : List Symbol) →
      FactorThen f L xs → FactorThen g M xs → (f ≡ g) × Meet L M
  one_factor (test c) (test d) L M nl nm xs a b = let o = one_call c d L M nl nm xs a b in (ap test o.0, o.1)
  one_factor (test c) (negated g) L M nl nm xs a b = absurd (call_no_keyword c (codes "not") refl L _ xs a b)
  one_factor (test c) (grouped q) L M nl nm xs a b = absurd (call_no_mark c OpenRound L _ xs a b)
  one_factor (negated f) (test d) L M nl nm xs a b = absurd (call_no_keyword d (codes "not") refl M _ xs b a)
  one_factor (negated f) (negated g) L M nl nm xs a b =
      let m = meet_next (word (codes "not")) _ _ xs a b in
      let o = one_factor f g L M nl nm m.0 m.1 m.2 in (ap negated o.0, o.1)
  one_factor (negated f) (grouped q) L M nl nm xs a b = absurd (keyword_no_mark (codes "not") OpenRound _ _ xs a b)
  one_factor (grouped p) (test d) L M nl nm xs a b = absurd (call_no_mark d OpenRound M _ xs b a)
  one_factor (grouped p) (negated g) L M nl nm xs a b = absurd (keyword_no_mark (codes "not") OpenRound _ _ xs b a)
  one_factor (grouped p) (grouped q) L M nl nm xs a b =
      let m = meet_next (mark OpenRound) _ _ xs a b in
      let o = one_predicate p q _ _ (close_never L) (close_never M) m.0 m.1 m.2 in
      (ap grouped o.0, meet_next (mark CloseRound) L M o.1.0 o.1.1 o.1.2)

-- the signs that would go on a call as a target
abbrev pub is_arrow : Sign → Bool
is_arrow (mark Arrow) = true
is_arrow s = false

abbrev pub goes_on_when : Sign → Bool
goes_on_when s = goes_on_or s || is_arrow s

never_or : (L : Rest) → Never goes_on_when L → Never goes_on_or L
never_or L never x xs e = never x xs (or_left (goes_on_or x.sign) _ e)

pub arrow_never : (L : Rest) → Never goes_on_or (Mark Arrow L)
arrow_never L = next_never goes_on_or (mark Arrow) L refl

-- a call is no predicate before an Arrow
call_no_when : (c : RawCall) (p : RawPredicate) (L M : Rest) → Never goes_on_when L → (xs : List Symbol) → CallThen c L xs → PredicateThen p (Mark Arrow M) xs → ⊥
call_no_when c (alone (single (test d))) L M nl xs a b =
    let o = one_call c d L _ (never_opens L (never_and L (never_or L nl))) (next_never opens (mark Arrow) M refl) xs a b in
    after o.1.0 o.1.1 o.1.2
  where
    after : (ys : List Symbol) → L ys → Mark Arrow M ys → ⊥
    after [] l m = m
    after (y ∷ ys) l m = nl y ys (ap goes_on_when m.0) l
call_no_when c (alone (single (negated f))) L M nl xs a b = call_no_keyword c (codes "not") refl L _ xs a b
call_no_when c (alone (single (grouped p))) L M nl xs a b = call_no_mark c OpenRound L _ xs a b
call_no_when c (alone (and_more (test d) e)) L M nl xs a b =
    let o = one_call c d L _ (never_opens L (never_and L (never_or L nl))) (and_never _) xs a b in
    no_keyword goes_on_when (codes "and") refl L _ nl o.1.0 o.1.1 o.1.2
call_no_when c (alone (and_more (negated f) e)) L M nl xs a b = call_no_keyword c (codes "not") refl L _ xs a b
call_no_when c (alone (and_more (grouped p) e)) L M nl xs a b = call_no_mark c OpenRound L _ xs a b
call_no_when c (or_more (single (test d)) q) L M nl xs a b =
    let o = one_call c d L _ (never_opens L (never_and L (never_or L nl))) (never_opens (Keyword (codes "or") (PredicateThen q (Mark Arrow M))) (or_never (PredicateThen q (Mark Arrow M)))) xs a b in
    no_keyword goes_on_when (codes "or") refl L _ nl o.1.0 o.1.1 o.1.2
call_no_when c (or_more (single (negated f)) q) L M nl xs a b = call_no_keyword c (codes "not") refl L _ xs a b
call_no_when c (or_more (single (grouped p)) q) L M nl xs a b = call_no_mark c OpenRound L _ xs a b
call_no_when c (or_more (and_more (test d) e) q) L M nl xs a b =
    let o = one_call c d L _ (never_opens L (never_and L (never_or L nl))) (and_never _) xs a b in
    no_keyword goes_on_when (codes "and") refl L _ nl o.1.0 o.1.1 o.1.2
call_no_when c (or_more (and_more (negated f) e) q) L M nl xs a b = call_no_keyword c (codes "not") refl L _ xs a b
call_no_when c (or_more (and_more (grouped p) e) q) L M nl xs a b = call_no_mark c OpenRound L _ xs a b

-- the signs with which a predicate may begin
abbrev pub starts : Sign → Bool
starts (word bytes) = bytes_eq bytes (codes "not") || not (is_reserved bytes)
starts (mark OpenRound) = true
starts s = false

call_starts : (c : RawCall) (L : Rest) (x : Symbol) (xs : List Symbol) → CallThen c L (x ∷ xs) → starts x.sign ≡ true
call_starts c L x xs a = ap starts a.1.0 ∙ or_right _ _ (ap not a.0)

factor_starts : (f : RawFactor) (L : Rest) (x : Symbol) (xs : List Symbol) → FactorThen f L (x ∷ xs) → starts x.sign ≡ true
factor_starts (test c) L x xs a = call_starts c L x xs a
factor_starts (negated f) L x xs a = ap starts a.0
factor_starts (grouped p) L x xs a = ap starts a.0

pub predicate_starts : (p : RawPredicate) (L : Rest) (x : Symbol) (xs : List Symbol) → PredicateThen p L (x ∷ xs) → starts x.sign ≡ true
predicate_starts (alone (single f)) L x xs a = factor_starts f _ x xs a
predicate_starts (alone (and_more f c)) L x xs a = factor_starts f _ x xs a
predicate_starts (or_more (single f) p) L x xs a = factor_starts f _ x xs a
predicate_starts (or_more (and_more f c) p) L x xs a = factor_starts f _ x xs a

factor_not_empty : (f : RawFactor) (L : Rest) → FactorThen f L [] → ⊥
factor_not_empty (test c) L a = a.1
factor_not_empty (negated f) L a = a
factor_not_empty (grouped p) L a = a

pub predicate_not_empty : (p : RawPredicate) (L : Rest) → PredicateThen p L [] → ⊥
predicate_not_empty (alone (single f)) L a = factor_not_empty f _ a
predicate_not_empty (alone (and_more f c)) L a = factor_not_empty f _ a
predicate_not_empty (or_more (single f) p) L a = factor_not_empty f _ a
predicate_not_empty (or_more (and_more f c) p) L a = factor_not_empty f _ a

-- no predicate begins with this sign
predicate_no : (p : RawPredicate) (s : Sign) → starts s ≡ false → (L M : Rest) (xs : List Symbol) → PredicateThen p L xs → Next s M xs → ⊥
predicate_no p s off L M [] a b = b
predicate_no p s off L M (x ∷ xs) a b = let e : true ≡ false = sym (predicate_starts p L x xs a) ∙ ap starts b.0 ∙ off in cc

-- the signs with which a statement may begin
abbrev pub begins : Sign → Bool
begins (word bytes) = not (bytes_eq bytes (codes "else"))
begins (mark OpenRound) = true
begins (mark OpenBrace) = true
begins s = false

not_and_not : (a b c d e f : Bool) → (a || (b || (c || (d || (e || f))))) ≡ false → not d ≡ true
not_and_not true b c d e f h = absurd cc
not_and_not false true c d e f h = absurd cc
not_and_not false false true d e f h = absurd cc
not_and_not false false false true e f h = absurd cc
not_and_not false false false false e f h = refl

not_else : (n : List ℕ) → is_reserved n ≡ false → not (bytes_eq n (codes "else")) ≡ true
not_else n e =
    not_and_not (bytes_eq n (codes "and")) (bytes_eq n (codes "or")) (bytes_eq n (codes "not")) (bytes_eq n (codes "else")) (bytes_eq n (codes "restart"))
    (bytes_eq n (codes "done") || false) e

call_begins : (c : RawCall) (L : Rest) (x : Symbol) (xs : List Symbol) → CallThen c L (x ∷ xs) → begins x.sign ≡ true
call_begins c L x xs a = ap begins a.1.0 ∙ not_else c.name.bytes a.0

factor_begins : (f : RawFactor) (L : Rest) (x : Symbol) (xs : List Symbol) → FactorThen f L (x ∷ xs) → begins x.sign ≡ true
factor_begins (test c) L x xs a = call_begins c L x xs a
factor_begins (negated f) L x xs a = ap begins a.0
factor_begins (grouped p) L x xs a = ap begins a.0

pub predicate_begins : (p : RawPredicate) (L : Rest) (x : Symbol) (xs : List Symbol) → PredicateThen p L (x ∷ xs) → begins x.sign ≡ true
predicate_begins (alone (single f)) L x xs a = factor_begins f _ x xs a
predicate_begins (alone (and_more f c)) L x xs a = factor_begins f _ x xs a
predicate_begins (or_more (single f) p) L x xs a = factor_begins f _ x xs a
predicate_begins (or_more (and_more f c) p) L x xs a = factor_begins f _ x xs a

target_begins : (t : RawTarget) (L : Rest) (x : Symbol) (xs : List Symbol) → TargetThen t L (x ∷ xs) → begins x.sign ≡ true
target_begins (handler c) L x xs a = call_begins c L x xs a
target_begins restart L x xs a = ap begins a.0
target_begins done L x xs a = ap begins a.0
target_begins (block raw) L x xs a = ap begins a.0

statement_begins : (s : RawStatement) (L : Rest) (x : Symbol) (xs : List Symbol) → StatementThen s L (x ∷ xs) → begins x.sign ≡ true
statement_begins (act t) L x xs a = target_begins t L x xs a
statement_begins (when p t) L x xs a = predicate_begins p _ x xs a
statement_begins (when_else p t s) L x xs a = predicate_begins p _ x xs a

pub target_not_empty : (t : RawTarget) (L : Rest) → TargetThen t L [] → ⊥
target_not_empty (handler c) L a = a.1
target_not_empty restart L a = a
target_not_empty done L a = a
target_not_empty (block raw) L a = a

statement_not_empty : (s : RawStatement) (L : Rest) → StatementThen s L [] → ⊥
statement_not_empty (act t) L a = target_not_empty t L a
statement_not_empty (when p t) L a = predicate_not_empty p _ a
statement_not_empty (when_else p t s) L a = predicate_not_empty p _ a

-- no statement begins with this sign
pub statement_no : (s : RawStatement) (g : Sign) → begins g ≡ false → (L M : Rest) (xs : List Symbol) → StatementThen s L xs → Next g M xs → ⊥
statement_no s g off L M [] a b = b
statement_no s g off L M (x ∷ xs) a b = let e : true ≡ false = sym (statement_begins s L x xs a) ∙ ap begins b.0 ∙ off in cc

-- a Newline or a Semi
abbrev pub separates : Sign → Bool
separates (mark Newline) = true
separates (mark Semi) = true
separates s = false

pub is_separator : (s : Sign) → (s ≡ mark Newline) ⊎ (s ≡ mark Semi) → separates s ≡ true
is_separator s (inl e) = ap separates e
is_separator s (inr e) = ap separates e

pub meet_separators : (L M : Rest) → Never separates L → Never separates M → (xs : List Symbol) → SeparatorsThen L xs → SeparatorsThen M xs → Meet L M
meet_separators L M nl nm [] a b = ([], a, b)
meet_separators L M nl nm (x ∷ xs) (inl a) (inl b) = (x ∷ xs, a, b)
meet_separators L M nl nm (x ∷ xs) (inl a) (inr b) = absurd (nl x xs (is_separator x.sign b.0) a)
meet_separators L M nl nm (x ∷ xs) (inr a) (inl b) = absurd (nm x xs (is_separator x.sign a.0) b)
meet_separators L M nl nm (x ∷ xs) (inr a) (inr b) = meet_separators L M nl nm xs a.1 b.1

meet_separator : (L M : Rest) (xs : List Symbol) → SeparatorThen L xs → SeparatorThen M xs → Meet L M
meet_separator L M xs (inl a) (inl b) = meet_next (mark Newline) L M xs a b
meet_separator L M xs (inl a) (inr b) = absurd (two_marks Newline Semi L M xs (λ e. cc) a b)
meet_separator L M xs (inr a) (inl b) = absurd (two_marks Semi Newline L M xs (λ e. cc) a b)
meet_separator L M xs (inr a) (inr b) = meet_next (mark Semi) L M xs a b

-- a sign that separates statements begins none
pub separator_begins_nothing : (g : Sign) → separates g ≡ true → begins g ≡ true → ⊥
separator_begins_nothing (word bytes) e f = cc
separator_begins_nothing (quoted bytes) e f = cc
separator_begins_nothing (mark Newline) e f = cc
separator_begins_nothing (mark Semi) e f = cc
separator_begins_nothing (mark Comma) e f = cc
separator_begins_nothing (mark Equals) e f = cc
separator_begins_nothing (mark OpenRound) e f = cc
separator_begins_nothing (mark CloseRound) e f = cc
separator_begins_nothing (mark OpenSquare) e f = cc
separator_begins_nothing (mark CloseSquare) e f = cc
separator_begins_nothing (mark OpenBrace) e f = cc
separator_begins_nothing (mark CloseBrace) e f = cc
separator_begins_nothing (mark Arrow) e f = cc
separator_begins_nothing (mark Quoted) e f = cc
separator_begins_nothing (mark Word) e f = cc

pub statement_never : (s : RawStatement) (L : Rest) → Never separates (StatementThen s L)
statement_never s L x xs on a = separator_begins_nothing x.sign on (statement_begins s L x xs a)

-- what may stand behind a list: nothing, or a closing brace
abbrev pub Closing : Rest → Type 0
Closing L = (x : Symbol) (xs : List Symbol) → L (x ∷ xs) → x.sign ≡ mark CloseBrace

pub closing_never : (bad : Sign → Bool) → bad (mark CloseBrace) ≡ false → (L : Rest) → Closing L → Never bad L
closing_never bad off L closes x xs on a = let e : true ≡ false = sym on ∙ ap bad (closes x xs a) ∙ off in cc

-- no `else` follows
abbrev pub NoElse : Rest → Type 1
NoElse L = (K : Rest) (xs : List Symbol) → L xs → SeparatorsThen (Keyword (codes "else") K) xs → ⊥

-- what may stand behind a statement that ends in a brace or not
abbrev pub Ends : Bool → Rest → Type 1
Ends true L = NoElse L
Ends false L = NoElse L × Never goes_on_when L

no_else : (e : Bool) (L : Rest) → Ends e L → NoElse L
no_else true L ends = ends
no_else false L ends = ends.0

-- what stands behind the first statement of a list
abbrev pub After : Bool → RawList → Rest → Rest
After e none L = SeparatorsThen L
After e (more t raw) L = Between e (ListThen (more t raw) L)

pub list_after : (s : RawStatement) (raw : RawList) (L : Rest) (xs : List Symbol) → ListThen (more s raw) L xs →
    SeparatorsThen (StatementThen s (After (ends_in_brace s) raw L)) xs
list_after s none L xs a = a
list_after s (more t raw) L xs a = a

else_never : (K : Rest) → Never separates (Keyword (codes "else") K)
else_never K = next_never separates (word (codes "else")) K refl

-- behind a closed list and behind a further statement there is no `else`
closing_no_else : (L : Rest) → Closing L → NoElse (SeparatorsThen L)
closing_no_else L closes K xs a b =
    let m = meet_separators L (Keyword (codes "else") K) (closing_never separates refl L closes) (else_never K) xs a b in
    both m.0 m.1 m.2
  where
    both : (ys : List Symbol) → L ys → Keyword (codes "else") K ys → ⊥
    both [] l k = k
    both (y ∷ ys) l k = let e : mark CloseBrace ≡ word (codes "else") = sym (closes y ys l) ∙ k.0 in cc

more_no_else : (t : RawStatement) (raw : RawList) (L : Rest) → NoElse (ListThen (more t raw) L)
more_no_else t raw L K xs a b =
    let m = meet_separators (StatementThen t (After (ends_in_brace t) raw L)) (Keyword (codes "else") K)
    (statement_never t (After (ends_in_brace t) raw L)) (else_never K) xs (list_after t raw L xs a) b in
    statement_no t (word (codes "else")) refl _ K m.0 m.1 m.2

separator_no_else : (L : Rest) → NoElse L → NoElse (SeparatorThen L)
separator_no_else L never K [] (inl a) b = a
separator_no_else L never K [] (inr a) b = a
separator_no_else L never K (x ∷ xs) (inl a) (inl b) = let e : mark Newline ≡ word (codes "else") = sym a.0 ∙ b.0 in cc
separator_no_else L never K (x ∷ xs) (inl a) (inr b) = never K xs a.1 b.1
separator_no_else L never K (x ∷ xs) (inr a) (inl b) = let e : mark Semi ≡ word (codes "else") = sym a.0 ∙ b.0 in cc
separator_no_else L never K (x ∷ xs) (inr a) (inr b) = never K xs a.1 b.1

separators_never : (L : Rest) → Closing L → Never goes_on_when (SeparatorsThen L)
separators_never L closes x xs on (inl a) = closing_never goes_on_when refl L closes x xs on a
separators_never L closes x xs on (inr (inl e, a)) = let f : true ≡ false = sym on ∙ ap goes_on_when e in cc
separators_never L closes x xs on (inr (inr e, a)) = let f : true ≡ false = sym on ∙ ap goes_on_when e in cc

separator_never : (L : Rest) → Never goes_on_when (SeparatorThen L)
separator_never L x xs on (inl a) = next_never goes_on_when (mark Newline) L refl x xs on a
separator_never L x xs on (inr a) = next_never goes_on_when (mark Semi) L refl x xs on a

pub after_ends : (e : Bool) (raw : RawList) (L : Rest) → Closing L → Ends e (After e raw L)
after_ends true none L closes = closing_no_else L closes
after_ends false none L closes = (closing_no_else L closes, separators_never L closes)
after_ends true (more t raw) L closes = more_no_else t raw L
after_ends false (more t raw) L closes = (separator_no_else (ListThen (more t raw) L) (more_no_else t raw L), separator_never (ListThen (more t raw) L))

brace_closes : (L : Rest) → Closing (Mark CloseBrace L)
brace_closes L x xs a = a.0

pub end_closes : Closing AtEnd
end_closes x xs a = absurd cc

-- what stands behind a target with an else part
abbrev pub ElseThen : RawStatement → Rest → Rest
ElseThen s L = SeparatorsThen (Keyword (codes "else") (MaybeArrow (StatementThen s L)))

else_opens : (s : RawStatement) (L : Rest) → Never opens (ElseThen s L)
else_opens s L x xs on (inl a) = next_never opens (word (codes "else")) (MaybeArrow (StatementThen s L)) refl x xs on a
else_opens s L x xs on (inr (inl e, a)) = let f : true ≡ false = sym on ∙ ap opens e in cc
else_opens s L x xs on (inr (inr e, a)) = let f : true ≡ false = sym on ∙ ap opens e in cc

-- what a target wants of what stands behind it
abbrev pub TargetEnds : Bool → Rest → Type 0
TargetEnds true L = Unit {0}
TargetEnds false L = Never opens L

ends_target : (e : Bool) (L : Rest) → Ends e L → TargetEnds e L
ends_target true L ends = tt
ends_target false L ends = never_opens L (never_and L (never_or L ends.1))

else_target : (e : Bool) (s : RawStatement) (L : Rest) → TargetEnds e (ElseThen s L)
else_target true s L = tt
else_target false s L = else_opens s L

meet_arrow : (s t : RawStatement) (L M : Rest) (xs : List Symbol) → MaybeArrow (StatementThen s L) xs → MaybeArrow (StatementThen t M) xs →
    Meet (StatementThen s L) (StatementThen t M)
meet_arrow s t L M xs (inl a) (inl b) = (xs, a, b)
meet_arrow s t L M xs (inl a) (inr b) = absurd (statement_no s (mark Arrow) refl L _ xs a b)
meet_arrow s t L M xs (inr a) (inl b) = absurd (statement_no t (mark Arrow) refl M _ xs b a)
meet_arrow s t L M xs (inr a) (inr b) = meet_next (mark Arrow) _ _ xs a b

meet_else : (s t : RawStatement) (L M : Rest) (xs : List Symbol) → ElseThen s L xs → ElseThen t M xs → Meet (StatementThen s L) (StatementThen t M)
meet_else s t L M xs a b =
    let k = meet_separators (Keyword (codes "else") (MaybeArrow (StatementThen s L))) (Keyword (codes "else") (MaybeArrow (StatementThen t M)))
    (else_never (MaybeArrow (StatementThen s L))) (else_never (MaybeArrow (StatementThen t M))) xs a b in
    let w = meet_next (word (codes "else")) (MaybeArrow (StatementThen s L)) (MaybeArrow (StatementThen t M)) k.0 k.1 k.2 in
    meet_arrow s t L M w.0 w.1 w.2

-- the first statements of two lists
meet_first : (s t : RawStatement) (v w : RawList) (L M : Rest) (xs : List Symbol) → ListThen (more s v) L xs → ListThen (more t w) M xs →
    Meet (StatementThen s (After (ends_in_brace s) v L)) (StatementThen t (After (ends_in_brace t) w M))
meet_first s t v w L M xs a b =
    meet_separators (StatementThen s (After (ends_in_brace s) v L)) (StatementThen t (After (ends_in_brace t) w M))
    (statement_never s (After (ends_in_brace s) v L)) (statement_never t (After (ends_in_brace t) w M)) xs (list_after s v L xs a) (list_after t w M xs b)

pub target_no_when : (t : RawTarget) (p : RawPredicate) (L M : Rest) → Ends (is_block t) L → (xs : List Symbol) → TargetThen t L xs → PredicateThen p (Mark Arrow M) xs → ⊥
target_no_when (handler c) p L M ends xs a b = call_no_when c p L M ends.1 xs a b
target_no_when restart p L M ends xs a b = predicate_no p (word (codes "restart")) refl _ L xs b a
target_no_when done p L M ends xs a b = predicate_no p (word (codes "done")) refl _ L xs b a
target_no_when (block raw) p L M ends xs a b = predicate_no p (mark OpenBrace) refl _ _ xs b a

same_between : (d e : Bool) → d ≡ e → (L M : Rest) (xs : List Symbol) → Between d L xs → Between e M xs → Meet L M
same_between true true s L M xs a b = (xs, a, b)
same_between true false s L M xs a b = absurd cc
same_between false true s L M xs a b = absurd cc
same_between false false s L M xs a b = meet_separator L M xs a b

-- a closed list does not go on with a statement
closed_no_more : (e : Bool) (t : RawStatement) (raw : RawList) (L M : Rest) → Closing L → (xs : List Symbol) → SeparatorsThen L xs → Between e (ListThen (more t raw) M) xs → ⊥
closed_no_more true t raw L M closes xs a b =
    let m = meet_separators L (StatementThen t (After (ends_in_brace t) raw M)) (closing_never separates refl L closes)
    (statement_never t (After (ends_in_brace t) raw M)) xs a (list_after t raw M xs b) in
    both m.0 m.1 m.2
  where
    both : (ys : List Symbol) → L ys → StatementThen t (After (ends_in_brace t) raw M) ys → ⊥
    both [] l k = statement_not_empty t _ k
    both (y ∷ ys) l k = let e : true ≡ false = sym (statement_begins t _ y ys k) ∙ ap begins (closes y ys l) in cc
closed_no_more false t raw L M closes [] a (inl b) = b
closed_no_more false t raw L M closes [] a (inr b) = b
closed_no_more false t raw L M closes (x ∷ xs) (inl a) (inl b) = let e : mark CloseBrace ≡ mark Newline = sym (closes x xs a) ∙ b.0 in cc
closed_no_more false t raw L M closes (x ∷ xs) (inl a) (inr b) = let e : mark CloseBrace ≡ mark Semi = sym (closes x xs a) ∙ b.0 in cc
closed_no_more false t raw L M closes (x ∷ xs) (inr a) (inl b) = closed_no_more true t raw L M closes xs a.1 b.1
closed_no_more false t raw L M closes (x ∷ xs) (inr a) (inr b) = closed_no_more true t raw L M closes xs a.1 b.1

pub two_words : (v w : List ℕ) → bytes_eq v w ≡ false → bytes_eq w w ≡ true → (L M : Rest) (xs : List Symbol) → Keyword v L xs → Keyword w M xs → ⊥
two_words v w apart same L M [] a b = b
two_words v w apart same L M (x ∷ xs) a b = differ (same_word v w (sym a.0 ∙ b.0))
  where
    differ : v ≡ w → ⊥
    differ e = let f : true ≡ false = sym same ∙ ap (λ k. bytes_eq k w) (sym e) ∙ apart in cc

three : (p q : RawPredicate) (t u : RawTarget) (s v : RawStatement) → p ≡ q → t ≡ u → s ≡ v → when_else p t s ≡ when_else q u v
three p q t u s v e f g = ap (λ (m : RawPredicate). when_else m t s) e ∙ ap (λ (n : RawTarget). when_else q n s) f ∙ ap (λ (l : RawStatement). when_else q u l) g

mutual
  pub one_target : (t u : RawTarget) (L M : Rest) → TargetEnds (is_block t) L → TargetEnds (is_block u) M → (xs : List Symbol) →
      TargetThen t L xs → TargetThen u M xs → (t ≡ u) × Meet L M
  one_target (handler c) (handler d) L M nl nm xs a b = let o = one_call c d L M nl nm xs a b in (ap handler o.0, o.1)
  one_target (handler c) restart L M nl nm xs a b = absurd (call_no_keyword c (codes "restart") refl L M xs a b)
  one_target (handler c) done L M nl nm xs a b = absurd (call_no_keyword c (codes "done") refl L M xs a b)
  one_target (handler c) (block w) L M nl nm xs a b = absurd (call_no_mark c OpenBrace L _ xs a b)
  one_target restart (handler d) L M nl nm xs a b = absurd (call_no_keyword d (codes "restart") refl M L xs b a)
  one_target restart restart L M nl nm xs a b = (refl, meet_next (word (codes "restart")) L M xs a b)
  one_target restart done L M nl nm xs a b = absurd (two_words (codes "restart") (codes "done") refl refl L M xs a b)
  one_target restart (block w) L M nl nm xs a b = absurd (keyword_no_mark (codes "restart") OpenBrace L _ xs a b)
  one_target done (handler d) L M nl nm xs a b = absurd (call_no_keyword d (codes "done") refl M L xs b a)
  one_target done restart L M nl nm xs a b = absurd (two_words (codes "done") (codes "restart") refl refl L M xs a b)
  one_target done done L M nl nm xs a b = (refl, meet_next (word (codes "done")) L M xs a b)
  one_target done (block w) L M nl nm xs a b = absurd (keyword_no_mark (codes "done") OpenBrace L _ xs a b)
  one_target (block v) (handler d) L M nl nm xs a b = absurd (call_no_mark d OpenBrace M _ xs b a)
  one_target (block v) restart L M nl nm xs a b = absurd (keyword_no_mark (codes "restart") OpenBrace M _ xs b a)
  one_target (block v) done L M nl nm xs a b = absurd (keyword_no_mark (codes "done") OpenBrace M _ xs b a)
  one_target (block v) (block w) L M nl nm xs a b =
      let m = meet_next (mark OpenBrace) _ _ xs a b in
      let o = one_list v w (Mark CloseBrace L) (Mark CloseBrace M) (brace_closes L) (brace_closes M) m.0 m.1 m.2 in
      (ap block o.0, meet_next (mark CloseBrace) L M o.1.0 o.1.1 o.1.2)

  pub one_statement : (s t : RawStatement) (L M : Rest) → Ends (ends_in_brace s) L → Ends (ends_in_brace t) M → (xs : List Symbol) →
      StatementThen s L xs → StatementThen t M xs → (s ≡ t) × Meet L M
  one_statement (act t) (act u) L M nl nm xs a b =
      let o = one_target t u L M (ends_target (is_block t) L nl) (ends_target (is_block u) M nm) xs a b in (ap act o.0, o.1)
  one_statement (act t) (when q u) L M nl nm xs a b = absurd (target_no_when t q L _ nl xs a b)
  one_statement (act t) (when_else q u v) L M nl nm xs a b = absurd (target_no_when t q L _ nl xs a b)
  one_statement (when p t) (act u) L M nl nm xs a b = absurd (target_no_when u p M _ nm xs b a)
  one_statement (when_else p t s) (act u) L M nl nm xs a b = absurd (target_no_when u p M _ nm xs b a)
  one_statement (when p t) (when q u) L M nl nm xs a b =
      let o = one_predicate p q _ _ (arrow_never _) (arrow_never _) xs a b in
      let m = meet_next (mark Arrow) _ _ o.1.0 o.1.1 o.1.2 in
      let r = one_target t u L M (ends_target (is_block t) L nl) (ends_target (is_block u) M nm) m.0 m.1 m.2 in
      (ap₂ when o.0 r.0, r.1)
  one_statement (when p t) (when_else q u v) L M nl nm xs a b =
      let o = one_predicate p q _ _ (arrow_never _) (arrow_never _) xs a b in
      let m = meet_next (mark Arrow) _ _ o.1.0 o.1.1 o.1.2 in
      let r = one_target t u L (ElseThen v M) (ends_target (is_block t) L nl) (else_target (is_block u) v M) m.0 m.1 m.2 in
      absurd (no_else (is_block t) L nl _ r.1.0 r.1.1 r.1.2)
  one_statement (when_else p t s) (when q u) L M nl nm xs a b =
      let o = one_predicate p q _ _ (arrow_never _) (arrow_never _) xs a b in
      let m = meet_next (mark Arrow) _ _ o.1.0 o.1.1 o.1.2 in
      let r = one_target t u (ElseThen s L) M (else_target (is_block t) s L) (ends_target (is_block u) M nm) m.0 m.1 m.2 in
      absurd (no_else (is_block u) M nm _ r.1.0 r.1.2 r.1.1)
  one_statement (when_else p t s) (when_else q u v) L M nl nm xs a b =
      let o = one_predicate p q _ _ (arrow_never _) (arrow_never _) xs a b in
      let m = meet_next (mark Arrow) _ _ o.1.0 o.1.1 o.1.2 in
      let r = one_target t u (ElseThen s L) (ElseThen v M) (else_target (is_block t) s L) (else_target (is_block u) v M) m.0 m.1 m.2 in
      let x = meet_else s v L M r.1.0 r.1.1 r.1.2 in
      let z = one_statement s v L M nl nm x.0 x.1 x.2 in
      (three p q t u s v o.0 r.0 z.0, z.1)

  pub one_list : (v w : RawList) (L M : Rest) → Closing L → Closing M → (xs : List Symbol) → ListThen v L xs → ListThen w M xs → (v ≡ w) × Meet L M
  one_list none none L M cl cm xs a b = (refl, meet_separators L M (closing_never separates refl L cl) (closing_never separates refl M cm) xs a b)
  one_list none (more t w) L M cl cm xs a b = absurd (closed_no_more true t w L M cl xs a b)
  one_list (more s v) none L M cl cm xs a b = absurd (closed_no_more true s v M L cm xs b a)
  one_list (more s none) (more t none) L M cl cm xs a b =
      let m = meet_first s t (none) (none) L M xs a b in
      let o = one_statement s t _ _ (after_ends (ends_in_brace s) none L cl) (after_ends (ends_in_brace t) none M cm) m.0 m.1 m.2 in
      (ap (λ k. more k none) o.0, meet_separators L M (closing_never separates refl L cl) (closing_never separates refl M cm) o.1.0 o.1.1 o.1.2)
  one_list (more s none) (more t (more u w)) L M cl cm xs a b =
      let m = meet_first s t (none) (more u w) L M xs a b in
      let o = one_statement s t _ _ (after_ends (ends_in_brace s) none L cl) (after_ends (ends_in_brace t) (more u w) M cm) m.0 m.1 m.2 in
      absurd (closed_no_more (ends_in_brace t) u w L M cl o.1.0 o.1.1 o.1.2)
  one_list (more s (more r v)) (more t none) L M cl cm xs a b =
      let m = meet_first s t (more r v) (none) L M xs a b in
      let o = one_statement s t _ _ (after_ends (ends_in_brace s) (more r v) L cl) (after_ends (ends_in_brace t) none M cm) m.0 m.1 m.2 in
      absurd (closed_no_more (ends_in_brace s) r v M L cm o.1.0 o.1.2 o.1.1)
  one_list (more s (more r v)) (more t (more u w)) L M cl cm xs a b =
      let m = meet_first s t (more r v) (more u w) L M xs a b in
      let o = one_statement s t _ _ (after_ends (ends_in_brace s) (more r v) L cl) (after_ends (ends_in_brace t) (more u w) M cm) m.0 m.1 m.2 in
      let k = same_between (ends_in_brace s) (ends_in_brace t) (ap ends_in_brace o.0) _ _ o.1.0 o.1.1 o.1.2 in
      let z = one_list (more r v) (more u w) L M cl cm k.0 k.1 k.2 in
      (ap₂ more o.0 z.0, z.1)

pub one_derivation : (v w : RawList) (xs : List Symbol) → ListThen v AtEnd xs → ListThen w AtEnd xs → v ≡ w
one_derivation v w xs a b = (one_list v w AtEnd AtEnd end_closes end_closes xs a b).0
