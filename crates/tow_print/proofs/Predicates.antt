-- A printed predicate is a predicate of the grammar that fits it again, given that each printed test is a call that does.
use Rattle.std.specs.Prelude.{◌≡◌, ℕ, ◌+◌, ◌-◌, ◌≤◌, List, [], ◌∷◌, ◌++◌, length, codes, Result, Ok, Err, ⊤, IsTrue}
use Rattle.std.specs.List.{list_all}
use Rattle.std.proofs.Common.{zero, suc, refl, sym, ap, ◌∙◌, arith, subst, append_assoc}
use Rattle.tow_language.specs.declared.token.TokenKind.TheVariants.{OpenRound, CloseRound}
use Rattle.tow_model.specs.declared.predicate.Test.{Test}
use Rattle.tow_model.specs.declared.predicate.Predicate.{Predicate}
use Rattle.tow_model.specs.declared.predicate.Predicate.TheVariants.{Is, Not, And, Or}
use Rattle.tow_language.specs.Tokens.{is_white}
use Rattle.tow_language.specs.Symbols.{mark, Symbol, joined}
use Rattle.tow_language.specs.Raw.{RawCall, RawPredicate, alone, or_more, RawConjunction, single, and_more, RawFactor, test, negated, grouped}
use Rattle.tow_language.specs.Grammar.{Rest, Mark, Keyword, CallThen, PredicateThen, ConjunctionThen, FactorThen}
use Rattle.tow_language.specs.Levels.{PredicateWithin, ConjunctionWithin, FactorWithin}
use Rattle.tow_language.specs.Fit.{TextFault, Counts, Fitted, ◌>>=◌, fit_test, fit_predicate, fit_or, fit_conjunction, fit_and, fit_factor}
use Rattle.tow_language.specs.Printed.{printed_test}
use Rattle.tow_language.proofs.Folds.{printed_at, at_is, at_not, at_and, at_or}
use Rattle.tow_print.proofs.Shown.{Shown, shown_then, shown_as}
use Rattle.tow_print.proofs.Texts.{IsEnd, one_shown, keyword_shown}

-- as many limits, logs and patterns
pub record Same (n m : Counts) : Type 0 where
  pub limits : n.limits ≡ m.limits
  pub logs : n.logs ≡ m.logs
  pub patterns : length n.patterns ≡ length m.patterns

-- the first gives a value, and the second with it
pub bind_ok : {A B : Type 0} (r : Result A TextFault) (f : A → Result B TextFault) (y : B) → (r >>= f) ≡ Ok y → (x : A) × (r ≡ Ok x) × (f x ≡ Ok y)
bind_ok (Ok x) f y e = (x, refl, e)
bind_ok (Err t) f y e = absurd (cc)

pub bind_is : {A B : Type 0} (r : Result A TextFault) (f : A → Result B TextFault) (x : A) (y : Result B TextFault) → r ≡ Ok x → f x ≡ y → (r >>= f) ≡ y
bind_is r f x y e g = ap (λ k. k >>= f) e ∙ g

-- printed so, behind any white space and before an end, it is read as something that fits it again within so many levels
pub record Back {R A : Type 0} (Then : R → Rest → Rest) (fit : R → Counts → Fitted A) (Within : ℕ → R → Type 0) (n m : Counts) (l : ℕ) (x : A) (printed : List ℕ)
    (at : ℕ) (gap after : List ℕ) : Type 1 where
  pub raw : R
  pub counts : Counts
  pub shown : Shown at (gap ++ (printed ++ after)) after (λ d. d) (Then raw)
  pub fits : fit raw m ≡ Ok (x, counts)
  pub same : Same n counts
  pub within : Within l raw

-- n are the counts behind it in the text that it came from, m those before it
abbrev pub Reads : {R A : Type 0} → (R → Rest → Rest) → (R → Counts → Fitted A) → (ℕ → R → Type 0) → Counts → Counts → ℕ → A → List ℕ → Type 1
Reads Then fit Within n m l x printed = (at : ℕ) (gap after : List ℕ) → IsTrue (list_all is_white gap) → IsEnd after → Back Then fit Within n m l x printed at gap after

abbrev pub AnyLevel : ℕ → RawCall → Type 0
AnyLevel l c = ⊤

abbrev pub TestReads : Counts → Counts → Test → List ℕ → Type 1
TestReads n m t printed = Reads CallThen fit_test AnyLevel n m 0 t printed

abbrev pub FactorReads : Counts → Counts → ℕ → Predicate → List ℕ → Type 1
FactorReads = Reads FactorThen fit_factor FactorWithin

abbrev pub ConjunctionReads : Counts → Counts → ℕ → Predicate → List ℕ → Type 1
ConjunctionReads = Reads ConjunctionThen fit_conjunction ConjunctionWithin

abbrev pub PredicateReads : Counts → Counts → ℕ → Predicate → List ℕ → Type 1
PredicateReads = Reads PredicateThen fit_predicate PredicateWithin

-- what a pair of a fit is
pub ok_pair : {A : Type 0} (x y : A × Counts) → ◌≡◌ {A = Fitted A} (Ok x) (Ok y) → x ≡ y
ok_pair x y e = cc

-- one more behind a row
abbrev or_snoc : RawPredicate → RawConjunction → RawPredicate
or_snoc (alone c) d = or_more c (alone d)
or_snoc (or_more c p) d = or_more c (or_snoc p d)

abbrev and_snoc : RawConjunction → RawFactor → RawConjunction
and_snoc (single f) g = and_more f (single g)
and_snoc (and_more f c) g = and_more f (and_snoc c g)

or_snoc_then : (p : RawPredicate) (d : RawConjunction) (L : Rest) → PredicateThen p (Keyword (codes "or") (ConjunctionThen d L)) ≡ PredicateThen (or_snoc p d) L
or_snoc_then (alone c) d L = refl
or_snoc_then (or_more c p) d L = ap (λ (K : Rest). ConjunctionThen c (Keyword (codes "or") K)) (or_snoc_then p d L)

and_snoc_then : (c : RawConjunction) (g : RawFactor) (L : Rest) → ConjunctionThen c (Keyword (codes "and") (FactorThen g L)) ≡ ConjunctionThen (and_snoc c g) L
and_snoc_then (single f) g L = refl
and_snoc_then (and_more f c) g L = ap (λ (K : Rest). FactorThen f (Keyword (codes "and") K)) (and_snoc_then c g L)

or_snoc_within : (l : ℕ) (p : RawPredicate) (d : RawConjunction) → PredicateWithin l p → ConjunctionWithin l d → PredicateWithin l (or_snoc p d)
or_snoc_within l (alone c) d v w = (v, w)
or_snoc_within l (or_more c p) d v w = (v.0, or_snoc_within l p d v.1 w)

and_snoc_within : (l : ℕ) (c : RawConjunction) (g : RawFactor) → ConjunctionWithin l c → FactorWithin l g → ConjunctionWithin l (and_snoc c g)
and_snoc_within l (single f) g v w = (v, w)
and_snoc_within l (and_more f c) g v w = (v.0, and_snoc_within l c g v.1 w)

fit_or_snoc : (p : RawPredicate) (d : RawConjunction) (left a b : Predicate) (n i j : Counts) → fit_or p left n ≡ Ok (a, i) → fit_conjunction d i ≡ Ok (b, j) →
    fit_or (or_snoc p d) left n ≡ Ok (Or a b, j)
fit_or_snoc (alone c) d left a b n i j e g =
    let x = bind_ok (fit_conjunction c n) (λ x. Ok (Or left x.0, x.1)) (a, i) e in
    let k = ok_pair (Or left x.0.0, x.0.1) (a, i) x.2 in
    bind_is (fit_conjunction c n) (λ x. fit_conjunction d x.1 >>= λ y. Ok (Or (Or left x.0) y.0, y.1)) x.0 (Ok (Or a b, j)) x.1
    (bind_is (fit_conjunction d x.0.1) (λ y. Ok (Or (Or left x.0.0) y.0, y.1)) (b, j) (Ok (Or a b, j)) (ap (λ (z : Predicate × Counts). fit_conjunction d z.1) k ∙ g)
    (ap (λ (z : Predicate × Counts). Ok (Or z.0 b, j)) k))
fit_or_snoc (or_more c p) d left a b n i j e g =
    let x = bind_ok (fit_conjunction c n) (λ x. fit_or p (Or left x.0) x.1) (a, i) e in
    bind_is (fit_conjunction c n) (λ x. fit_or (or_snoc p d) (Or left x.0) x.1) x.0 (Ok (Or a b, j)) x.1 (fit_or_snoc p d (Or left x.0.0) a b x.0.1 i j x.2 g)

fit_predicate_snoc : (p : RawPredicate) (d : RawConjunction) (a b : Predicate) (n i j : Counts) → fit_predicate p n ≡ Ok (a, i) → fit_conjunction d i ≡ Ok (b, j) →
    fit_predicate (or_snoc p d) n ≡ Ok (Or a b, j)
fit_predicate_snoc (alone c) d a b n i j e g =
    bind_is (fit_conjunction c n) (λ x. fit_or (alone d) x.0 x.1) (a, i) (Ok (Or a b, j)) e (bind_is (fit_conjunction d i) (λ y. Ok (Or a y.0, y.1)) (b, j) (Ok (Or a b, j)) g refl)
fit_predicate_snoc (or_more c p) d a b n i j e g =
    let x = bind_ok (fit_conjunction c n) (λ x. fit_or p x.0 x.1) (a, i) e in
    bind_is (fit_conjunction c n) (λ x. fit_or (or_snoc p d) x.0 x.1) x.0 (Ok (Or a b, j)) x.1 (fit_or_snoc p d x.0.0 a b x.0.1 i j x.2 g)

fit_and_snoc : (c : RawConjunction) (f : RawFactor) (left a b : Predicate) (n i j : Counts) → fit_and c left n ≡ Ok (a, i) → fit_factor f i ≡ Ok (b, j) →
    fit_and (and_snoc c f) left n ≡ Ok (And a b, j)
fit_and_snoc (single g) f left a b n i j e h =
    let x = bind_ok (fit_factor g n) (λ x. Ok (And left x.0, x.1)) (a, i) e in
    let k = ok_pair (And left x.0.0, x.0.1) (a, i) x.2 in
    bind_is (fit_factor g n) (λ x. fit_factor f x.1 >>= λ y. Ok (And (And left x.0) y.0, y.1)) x.0 (Ok (And a b, j)) x.1
    (bind_is (fit_factor f x.0.1) (λ y. Ok (And (And left x.0.0) y.0, y.1)) (b, j) (Ok (And a b, j)) (ap (λ (z : Predicate × Counts). fit_factor f z.1) k ∙ h)
    (ap (λ (z : Predicate × Counts). Ok (And z.0 b, j)) k))
fit_and_snoc (and_more g c) f left a b n i j e h =
    let x = bind_ok (fit_factor g n) (λ x. fit_and c (And left x.0) x.1) (a, i) e in
    bind_is (fit_factor g n) (λ x. fit_and (and_snoc c f) (And left x.0) x.1) x.0 (Ok (And a b, j)) x.1 (fit_and_snoc c f (And left x.0.0) a b x.0.1 i j x.2 h)

fit_conjunction_snoc : (c : RawConjunction) (f : RawFactor) (a b : Predicate) (n i j : Counts) → fit_conjunction c n ≡ Ok (a, i) → fit_factor f i ≡ Ok (b, j) →
    fit_conjunction (and_snoc c f) n ≡ Ok (And a b, j)
fit_conjunction_snoc (single g) f a b n i j e h =
    bind_is (fit_factor g n) (λ x. fit_and (single f) x.0 x.1) (a, i) (Ok (And a b, j)) e (bind_is (fit_factor f i) (λ y. Ok (And a y.0, y.1)) (b, j) (Ok (And a b, j)) h refl)
fit_conjunction_snoc (and_more g c) f a b n i j e h =
    let x = bind_ok (fit_factor g n) (λ x. fit_and c x.0 x.1) (a, i) e in
    bind_is (fit_factor g n) (λ x. fit_and (and_snoc c f) x.0 x.1) x.0 (Ok (And a b, j)) x.1 (fit_and_snoc c f x.0.0 a b x.0.1 i j x.2 h)

-- more levels do no harm
mutual
  predicate_more : (l k : ℕ) (p : RawPredicate) → l ≤ k → PredicateWithin l p → PredicateWithin k p
  predicate_more l k (alone c) h w = conjunction_more l k c h w
  predicate_more l k (or_more c p) h w = (conjunction_more l k c h w.0, predicate_more l k p h w.1)

  conjunction_more : (l k : ℕ) (c : RawConjunction) → l ≤ k → ConjunctionWithin l c → ConjunctionWithin k c
  conjunction_more l k (single f) h w = factor_more l k f h w
  conjunction_more l k (and_more f c) h w = (factor_more l k f h w.0, conjunction_more l k c h w.1)

  factor_more : (l k : ℕ) (f : RawFactor) → l ≤ k → FactorWithin l f → FactorWithin k f
  factor_more l k (test c) h w = w
  factor_more l k (negated f) h w = let o = w.0 in (omega (arith, o, h), factor_more (l - 1) (k - 1) f (omega (arith, h)) w.1)
  factor_more l k (grouped p) h w = let o = w.0 in (omega (arith, o, h), predicate_more (l - 1) (k - 1) p (omega (arith, h)) w.1)

pub space_ends : (xs : List ℕ) → IsEnd (32 ∷ xs)
space_ends xs = record { no_arrow = refl; no_brace = refl; dark = refl }

pub round_ends : (xs : List ℕ) → IsEnd (41 ∷ xs)
round_ends xs = record { no_arrow = refl; no_brace = refl; dark = refl }

-- joined by a word
and_reads : (n i m : Counts) (l : ℕ) (left x : Predicate) (P Q : List ℕ) → ConjunctionReads n m l left P → ((k : Counts) → Same n k → FactorReads i k l x Q) →
    ConjunctionReads i m l (And left x) (P ++ (codes " and " ++ Q))
and_reads n i m l left x P Q one other at gap after white end =
    let a = one at gap (codes " and " ++ (Q ++ after)) white (space_ends _) in
    let w = keyword_shown a.shown.end (codes " ") (codes "and") (codes " " ++ (Q ++ after)) refl (omega arith, refl, refl) in
    let b = other a.counts a.same w.end (codes " ") after refl end in
    record {
      raw = and_snoc a.raw b.raw;
      counts = b.counts;
      shown = subst (λ (k : List ℕ). Shown at (gap ++ k) after (λ d. d) (ConjunctionThen (and_snoc a.raw b.raw))) (sym (append_assoc P (codes " and " ++ Q) after))
          (shown_as (λ d. refl) (λ L xs f. subst (λ (K : Rest). K xs) (and_snoc_then a.raw b.raw L) f) (shown_then a.shown (shown_then w b.shown)));
      fits = fit_conjunction_snoc a.raw b.raw left x m a.counts b.counts a.fits b.fits;
      same = b.same;
      within = and_snoc_within l a.raw b.raw a.within b.within;
    }

or_reads : (n i m : Counts) (l : ℕ) (left x : Predicate) (P Q : List ℕ) → PredicateReads n m l left P → ((k : Counts) → Same n k → ConjunctionReads i k l x Q) →
    PredicateReads i m l (Or left x) (P ++ (codes " or " ++ Q))
or_reads n i m l left x P Q one other at gap after white end =
    let a = one at gap (codes " or " ++ (Q ++ after)) white (space_ends _) in
    let w = keyword_shown a.shown.end (codes " ") (codes "or") (codes " " ++ (Q ++ after)) refl (omega arith, refl, refl) in
    let b = other a.counts a.same w.end (codes " ") after refl end in
    record {
      raw = or_snoc a.raw b.raw;
      counts = b.counts;
      shown = subst (λ (k : List ℕ). Shown at (gap ++ k) after (λ d. d) (PredicateThen (or_snoc a.raw b.raw))) (sym (append_assoc P (codes " or " ++ Q) after))
          (shown_as (λ d. refl) (λ L xs f. subst (λ (K : Rest). K xs) (or_snoc_then a.raw b.raw L) f) (shown_then a.shown (shown_then w b.shown)));
      fits = fit_predicate_snoc a.raw b.raw left x m a.counts b.counts a.fits b.fits;
      same = b.same;
      within = or_snoc_within l a.raw b.raw a.within b.within;
    }

not_reads : (n m : Counts) (l : ℕ) (p : Predicate) (P : List ℕ) → FactorReads n m l p P → FactorReads n m (l + 1) (Not p) (codes "not " ++ P)
not_reads n m l p P one at gap after white end =
    let w = keyword_shown at gap (codes "not") (codes " " ++ (P ++ after)) white (omega arith, refl, refl) in
    let a = one w.end (codes " ") after refl end in
    record {
      raw = negated a.raw;
      counts = a.counts;
      shown = shown_then w a.shown;
      fits = bind_is (fit_factor a.raw m) (λ x. Ok (Not x.0, x.1)) (p, a.counts) (Ok (Not p, a.counts)) a.fits refl;
      same = a.same;
      within = (omega arith, factor_more l (l + 1 - 1) a.raw (omega arith) a.within);
    }

open_kept : (place n : ℕ) (rest : List Symbol) → joined n (record { sign = mark OpenRound; place = place } ∷ rest) ≡ record { sign = mark OpenRound; place = place } ∷ joined (n + 1) rest
open_kept place zero rest = refl
open_kept place (suc n) rest = refl

close_kept : (place n : ℕ) (rest : List Symbol) → joined n (record { sign = mark CloseRound; place = place } ∷ rest) ≡ record { sign = mark CloseRound; place = place } ∷ joined (n - 1) rest
close_kept place zero rest = refl
close_kept place (suc n) rest = refl

pub open_shown : (at : ℕ) (gap after : List ℕ) → IsTrue (list_all is_white gap) → Shown at (gap ++ (codes "(" ++ after)) after (λ n. n + 1) (Mark OpenRound)
open_shown at gap after white = one_shown OpenRound at gap (codes "(") after (mark OpenRound) (λ n. n + 1) (Mark OpenRound) white refl refl (λ n rest. open_kept _ n rest) (λ L rest l. (refl, l))

pub close_shown : (at : ℕ) (gap after : List ℕ) → IsTrue (list_all is_white gap) → Shown at (gap ++ (codes ")" ++ after)) after (λ n. n - 1) (Mark CloseRound)
close_shown at gap after white = one_shown CloseRound at gap (codes ")") after (mark CloseRound) (λ n. n - 1) (Mark CloseRound) white refl refl (λ n rest. close_kept _ n rest) (λ L rest l. (refl, l))

-- in parentheses, which open a level
round_reads : (n m : Counts) (l : ℕ) (p : Predicate) (P : List ℕ) → PredicateReads n m l p P → FactorReads n m (l + 1) p (codes "(" ++ (P ++ codes ")"))
round_reads n m l p P one at gap after white end =
    let o = open_shown at gap (P ++ (codes ")" ++ after)) white in
    let a = one o.end [] (codes ")" ++ after) refl (round_ends _) in
    let c = close_shown a.shown.end [] after refl in
    record {
      raw = grouped a.raw;
      counts = a.counts;
      shown = subst (λ (k : List ℕ). Shown at (gap ++ (40 ∷ k)) after (λ d. d) (FactorThen (grouped a.raw))) (sym (append_assoc P (codes ")") after))
          (shown_as (λ d. omega arith) (λ L xs f. f) (shown_then o (shown_then a.shown c)));
      fits = a.fits;
      same = a.same;
      within = (omega arith, predicate_more l (l + 1 - 1) a.raw (omega arith) a.within);
    }

-- read again at each of the three places, within so many levels
record Sites (n m : Counts) (w c f : ℕ) (p : Predicate) : Type 1 where
  whole : PredicateReads n m w p (printed_at p 0)
  conjunct : ConjunctionReads n m c p (printed_at p 1)
  factor : FactorReads n m f p (printed_at p 2)

predicate_wider : {n m : Counts} {l : ℕ} {p : Predicate} {P : List ℕ} (k : ℕ) → l ≤ k → PredicateReads n m l p P → PredicateReads n m k p P
predicate_wider {l = l} k h one at gap after white end =
    let a = one at gap after white end in
    record { raw = a.raw; counts = a.counts; shown = a.shown; fits = a.fits; same = a.same; within = predicate_more l k a.raw h a.within }

factor_wider : {n m : Counts} {l : ℕ} {p : Predicate} {P : List ℕ} (k : ℕ) → l ≤ k → FactorReads n m l p P → FactorReads n m k p P
factor_wider {l = l} k h one at gap after white end =
    let a = one at gap after white end in
    record { raw = a.raw; counts = a.counts; shown = a.shown; fits = a.fits; same = a.same; within = factor_more l k a.raw h a.within }

conjunction_wider : {n m : Counts} {l : ℕ} {p : Predicate} {P : List ℕ} (k : ℕ) → l ≤ k → ConjunctionReads n m l p P → ConjunctionReads n m k p P
conjunction_wider {l = l} k h one at gap after white end =
    let a = one at gap after white end in
    record { raw = a.raw; counts = a.counts; shown = a.shown; fits = a.fits; same = a.same; within = conjunction_more l k a.raw h a.within }

factor_alone : {n m : Counts} {l : ℕ} {p : Predicate} {P : List ℕ} → FactorReads n m l p P → ConjunctionReads n m l p P
factor_alone one at gap after white end =
    let a = one at gap after white end in
    record { raw = single a.raw; counts = a.counts; shown = a.shown; fits = a.fits; same = a.same; within = a.within }

conjunction_alone : {n m : Counts} {l : ℕ} {p : Predicate} {P : List ℕ} → ConjunctionReads n m l p P → PredicateReads n m l p P
conjunction_alone one at gap after white end =
    let a = one at gap after white end in
    record { raw = alone a.raw; counts = a.counts; shown = a.shown; fits = a.fits; same = a.same; within = a.within }

-- a test or a negated predicate is printed the same everywhere
factor_sites : (n m : Counts) (l : ℕ) (p : Predicate) (P : List ℕ) → ((k : ℕ) → printed_at p k ≡ P) → FactorReads n m l p P → Sites n m l l l p
factor_sites n m l p P is one = record {
  whole = subst (λ k. PredicateReads n m l p k) (sym (is 0)) (conjunction_alone (factor_alone one));
  conjunct = subst (λ k. ConjunctionReads n m l p k) (sym (is 1)) (factor_alone one);
  factor = subst (λ k. FactorReads n m l p k) (sym (is 2)) one;
}

and_sites : (n m : Counts) (l : ℕ) (a b : Predicate) → ConjunctionReads n m l (And a b) (printed_at a 1 ++ (codes " and " ++ printed_at b 2)) → Sites n m l l (l + 1) (And a b)
and_sites n m l a b one = record {
  whole = subst (λ k. PredicateReads n m l (And a b) k) (sym (at_and a b 0)) (conjunction_alone one);
  conjunct = subst (λ k. ConjunctionReads n m l (And a b) k) (sym (at_and a b 1)) one;
  factor = subst (λ k. FactorReads n m (l + 1) (And a b) k) (sym (at_and a b 2)) (round_reads n m l (And a b) _ (conjunction_alone one));
}

or_sites : (n m : Counts) (l : ℕ) (a b : Predicate) → PredicateReads n m l (Or a b) (printed_at a 0 ++ (codes " or " ++ printed_at b 1)) → Sites n m l (l + 1) (l + 1) (Or a b)
or_sites n m l a b one = record {
  whole = subst (λ k. PredicateReads n m l (Or a b) k) (sym (at_or a b 0)) one;
  conjunct = subst (λ k. ConjunctionReads n m (l + 1) (Or a b) k) (sym (at_or a b 1)) (factor_alone (round_reads n m l (Or a b) _ one));
  factor = subst (λ k. FactorReads n m (l + 1) (Or a b) k) (sym (at_or a b 2)) (round_reads n m l (Or a b) _ one);
}

wider : {n m : Counts} {w c f : ℕ} {p : Predicate} (x y z : ℕ) → w ≤ x → c ≤ y → f ≤ z → Sites n m w c f p → Sites n m x y z p
wider x y z h i j s = record { whole = predicate_wider x h s.whole; conjunct = conjunction_wider y i s.conjunct; factor = factor_wider z j s.factor }

-- each call of a predicate is such
abbrev mutual
  pub OfPredicate : (RawCall → Type 0) → RawPredicate → Type 0
  OfPredicate Fine (alone c) = OfConjunction Fine c
  OfPredicate Fine (or_more c p) = OfConjunction Fine c × OfPredicate Fine p

  pub OfConjunction : (RawCall → Type 0) → RawConjunction → Type 0
  OfConjunction Fine (single f) = OfFactor Fine f
  OfConjunction Fine (and_more f c) = OfFactor Fine f × OfConjunction Fine c

  pub OfFactor : (RawCall → Type 0) → RawFactor → Type 0
  OfFactor Fine (test c) = Fine c
  OfFactor Fine (negated f) = OfFactor Fine f
  OfFactor Fine (grouped p) = OfPredicate Fine p

-- each call that is such and fits a test is printed as one that fits it again
abbrev pub TestsRead : (RawCall → Type 0) → Type 1
TestsRead Fine = (c : RawCall) (n i m : Counts) (t : Test) → Fine c → fit_test c n ≡ Ok (t, i) → Same n m → TestReads i m t (printed_test t)

sites_as : (m : Counts) (w c f : ℕ) (p q : Predicate) (i j : Counts) → ◌≡◌ {A = Predicate × Counts} (p, i) (q, j) → Sites i m w c f p → Sites j m w c f q
sites_as m w c f p q i j e s = subst (λ (x : Predicate × Counts). Sites x.1 m w c f x.0) e s

module _ (Fine : RawCall → Type 0) (leaf : TestsRead Fine) where
  test_reads : (c : RawCall) (n i m : Counts) (l : ℕ) (t : Test) → Fine c → fit_test c n ≡ Ok (t, i) → Same n m → FactorReads i m l (Is t) (printed_test t)
  test_reads c n i m l t fine e same at gap after white end =
      let a = leaf c n i m t fine e same at gap after white end in
      record {
        raw = test a.raw;
        counts = a.counts;
        shown = a.shown;
        fits = bind_is (fit_test a.raw m) (λ x. Ok (Is x.0, x.1)) (t, a.counts) (Ok (Is t, a.counts)) a.fits refl;
        same = a.same;
        within = tt;
      }

  mutual
    factor_back : (f : RawFactor) (l : ℕ) (n i m : Counts) (p : Predicate) → OfFactor Fine f → FactorWithin l f → fit_factor f n ≡ Ok (p, i) → Same n m → Sites i m l l l p
    factor_back (test c) l n i m p fine w e same =
        let x = bind_ok (fit_test c n) (λ x. Ok (Is x.0, x.1)) (p, i) e in
        sites_as m l l l (Is x.0.0) p x.0.1 i (ok_pair (Is x.0.0, x.0.1) (p, i) x.2)
        (factor_sites x.0.1 m l (Is x.0.0) (printed_test x.0.0) (at_is x.0.0) (test_reads c n x.0.1 m l x.0.0 fine x.1 same))
    factor_back (negated f) l n i m p fine w e same =
        let x = bind_ok (fit_factor f n) (λ x. Ok (Not x.0, x.1)) (p, i) e in
        let o = w.0 in
        sites_as m l l l (Not x.0.0) p x.0.1 i (ok_pair (Not x.0.0, x.0.1) (p, i) x.2)
        (factor_sites x.0.1 m l (Not x.0.0) (codes "not " ++ printed_at x.0.0 2) (at_not x.0.0)
        (factor_wider l (omega (arith, o)) (not_reads x.0.1 m (l - 1) x.0.0 (printed_at x.0.0 2) (factor_back f (l - 1) n x.0.1 m x.0.0 fine w.1 x.1 same).factor)))
    factor_back (grouped q) l n i m p fine w e same =
        let o = w.0 in wider l l l (omega arith) (omega (arith, o)) (omega (arith, o)) (predicate_back q (l - 1) n i m p fine w.1 e same)

    conjunction_back : (c : RawConjunction) (l : ℕ) (n i m : Counts) (p : Predicate) → OfConjunction Fine c → ConjunctionWithin l c → fit_conjunction c n ≡ Ok (p, i) → Same n m →
        Sites i m l l (l + 1) p
    conjunction_back (single f) l n i m p fine w e same = wider l l (l + 1) (omega arith) (omega arith) (omega arith) (factor_back f l n i m p fine w e same)
    conjunction_back (and_more f c) l n i m p fine w e same =
        let x = bind_ok (fit_factor f n) (λ x. fit_and c x.0 x.1) (p, i) e in
        and_back c l x.0.1 i m x.0.0 p fine.1 w.1 (factor_back f l n x.0.1 m x.0.0 fine.0 w.0 x.1 same).conjunct x.2

    and_back : (c : RawConjunction) (l : ℕ) (n i m : Counts) (left p : Predicate) → OfConjunction Fine c → ConjunctionWithin l c → ConjunctionReads n m l left (printed_at left 1) →
        fit_and c left n ≡ Ok (p, i) → Sites i m l l (l + 1) p
    and_back (single f) l n i m left p fine w one e =
        let x = bind_ok (fit_factor f n) (λ x. Ok (And left x.0, x.1)) (p, i) e in
        sites_as m l l (l + 1) (And left x.0.0) p x.0.1 i (ok_pair (And left x.0.0, x.0.1) (p, i) x.2)
        (and_sites x.0.1 m l left x.0.0 (and_reads n x.0.1 m l left x.0.0 (printed_at left 1) (printed_at x.0.0 2) one (λ k s. (factor_back f l n x.0.1 k x.0.0 fine w x.1 s).factor)))
    and_back (and_more f c) l n i m left p fine w one e =
        let x = bind_ok (fit_factor f n) (λ x. fit_and c (And left x.0) x.1) (p, i) e in
        let joined_one = and_reads n x.0.1 m l left x.0.0 (printed_at left 1) (printed_at x.0.0 2) one (λ k s. (factor_back f l n x.0.1 k x.0.0 fine.0 w.0 x.1 s).factor) in
        and_back c l x.0.1 i m (And left x.0.0) p fine.1 w.1 (and_sites x.0.1 m l left x.0.0 joined_one).conjunct x.2

    predicate_back : (q : RawPredicate) (l : ℕ) (n i m : Counts) (p : Predicate) → OfPredicate Fine q → PredicateWithin l q → fit_predicate q n ≡ Ok (p, i) → Same n m →
        Sites i m l (l + 1) (l + 1) p
    predicate_back (alone c) l n i m p fine w e same = wider l (l + 1) (l + 1) (omega arith) (omega arith) (omega arith) (conjunction_back c l n i m p fine w e same)
    predicate_back (or_more c q) l n i m p fine w e same =
        let x = bind_ok (fit_conjunction c n) (λ x. fit_or q x.0 x.1) (p, i) e in
        or_back q l x.0.1 i m x.0.0 p fine.1 w.1 (conjunction_back c l n x.0.1 m x.0.0 fine.0 w.0 x.1 same).whole x.2

    or_back : (q : RawPredicate) (l : ℕ) (n i m : Counts) (left p : Predicate) → OfPredicate Fine q → PredicateWithin l q → PredicateReads n m l left (printed_at left 0) →
        fit_or q left n ≡ Ok (p, i) → Sites i m l (l + 1) (l + 1) p
    or_back (alone c) l n i m left p fine w one e =
        let x = bind_ok (fit_conjunction c n) (λ x. Ok (Or left x.0, x.1)) (p, i) e in
        sites_as m l (l + 1) (l + 1) (Or left x.0.0) p x.0.1 i (ok_pair (Or left x.0.0, x.0.1) (p, i) x.2)
        (or_sites x.0.1 m l left x.0.0 (or_reads n x.0.1 m l left x.0.0 (printed_at left 0) (printed_at x.0.0 1) one (λ k s. (conjunction_back c l n x.0.1 k x.0.0 fine w x.1 s).conjunct)))
    or_back (or_more c q) l n i m left p fine w one e =
        let x = bind_ok (fit_conjunction c n) (λ x. fit_or q (Or left x.0) x.1) (p, i) e in
        let joined_one = or_reads n x.0.1 m l left x.0.0 (printed_at left 0) (printed_at x.0.0 1) one (λ k s. (conjunction_back c l n x.0.1 k x.0.0 fine.0 w.0 x.1 s).conjunct) in
        or_back q l x.0.1 i m (Or left x.0.0) p fine.1 w.1 (or_sites x.0.1 m l left x.0.0 joined_one).whole x.2

  -- a predicate that fits is printed as one that fits it again
  pub predicate_reads : (q : RawPredicate) (l : ℕ) (n i m : Counts) (p : Predicate) → OfPredicate Fine q → PredicateWithin l q → fit_predicate q n ≡ Ok (p, i) → Same n m →
      PredicateReads i m l p (printed_at p 0)
  predicate_reads q l n i m p fine w e same = (predicate_back q l n i m p fine w e same).whole
