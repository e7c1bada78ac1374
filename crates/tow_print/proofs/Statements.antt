-- Printed statements are statements of the grammar that fit them again, given that each printed call does.
use Rattle.std.specs.Prelude.{◌≡◌, ◌⊎◌, ℕ, ◌-◌, ◌<◌, Bool, true, false, List, [], ◌∷◌, ◌++◌, map, codes, None, Some, Ok}
use Rattle.std.proofs.Common.{refl, sym, ap, ◌∙◌, arith, subst, append_assoc, append-nil}
use mathlib.Core.Logic.{inl, inr}
use Rattle.tow_language.specs.declared.token.TokenKind.TheVariants.{Newline, Semi}
use Rattle.tow_model.specs.declared.action.Action.{Action}
use Rattle.tow_model.specs.declared.action.Action.TheVariants as actions
use Rattle.tow_model.specs.declared.predicate.Predicate.{Predicate}
use Rattle.tow_model.specs.declared.statement.Statement.{Statement}
use Rattle.tow_model.specs.declared.statement.Statement.TheVariants.{When, Act, Block}
use Rattle.tow_language.specs.Symbols.{mark, Symbol}
use Rattle.tow_language.specs.Raw.{RawCall, RawTarget, handler, restart, done, block, RawStatement, act, when, when_else, RawList, none, more}
use Rattle.tow_language.specs.Grammar.{Rest, Mark, CallThen, SeparatorsThen, MaybeArrow, ends_in_brace, Between, TargetThen, StatementThen, ListThen}
use Rattle.tow_language.specs.Levels.{TargetWithin, StatementWithin, ListWithin}
use Rattle.tow_language.specs.Fit.{Counts, Fitted, ◌>>=◌, fit_action, fit_predicate, fit_target, fit_statement, fit_list}
use Rattle.tow_language.specs.Printed.{printed_action, printed_statement, printed_block, joined_by}
use Rattle.tow_language.proofs.Folds.{printed_at, of_act, of_block, of_when, of_else}
use Rattle.tow_print.proofs.Shown.{Shown, shown_then, shown_as}
use Rattle.tow_print.proofs.Texts.{pieces_end, keyword_shown}
use Rattle.tow_print.proofs.Marks.{semi_shown, open_brace_shown, close_brace_shown, arrow_shown, semi_ends}
use Rattle.tow_print.proofs.Predicates.{Same, Reads, AnyLevel, PredicateReads, OfPredicate, TestsRead, predicate_reads, bind_ok, bind_is, ok_pair, space_ends}

-- each call of a statement is such
abbrev mutual
  pub OfTarget : (RawCall → Type 0) → RawTarget → Type 0
  OfTarget Fine (handler c) = Fine c
  OfTarget Fine restart = Unit {0}
  OfTarget Fine done = Unit {0}
  OfTarget Fine (block raw) = OfList Fine raw

  pub OfStatement : (RawCall → Type 0) → RawStatement → Type 0
  OfStatement Fine (act t) = OfTarget Fine t
  OfStatement Fine (when p t) = OfPredicate Fine p × OfTarget Fine t
  OfStatement Fine (when_else p t s) = OfPredicate Fine p × OfTarget Fine t × OfStatement Fine s

  pub OfList : (RawCall → Type 0) → RawList → Type 0
  OfList Fine none = Unit {0}
  OfList Fine (more s raw) = OfStatement Fine s × OfList Fine raw

abbrev pub ActionReads : Counts → Counts → Action → List ℕ → Type 1
ActionReads n m a printed = Reads CallThen fit_action AnyLevel n m 0 a printed

-- each call that is such and fits an action is printed as one that fits it again
abbrev pub ActionsRead : (RawCall → Type 0) → Type 1
ActionsRead Fine = (c : RawCall) (n i m : Counts) (a : Action) → Fine c → fit_action c n ≡ Ok (a, i) → Same n m → ActionReads i m a (printed_action a)

abbrev pub TargetReads : Counts → Counts → ℕ → Statement → List ℕ → Type 1
TargetReads = Reads TargetThen fit_target TargetWithin

abbrev pub StatementReads : Counts → Counts → ℕ → Statement → List ℕ → Type 1
StatementReads = Reads StatementThen fit_statement StatementWithin

-- statements of which there is at least one
abbrev Some_raw : Type 0
Some_raw = RawStatement × RawList

abbrev RowThen : Some_raw → Rest → Rest
RowThen r L = ListThen (more r.0 r.1) L

abbrev fit_row : Some_raw → Counts → Fitted (List Statement)
fit_row r n = fit_list (more r.0 r.1) n

abbrev RowWithin : ℕ → Some_raw → Type 0
RowWithin l r = ListWithin l (more r.0 r.1)

abbrev RowReads : Counts → Counts → ℕ → List Statement → List ℕ → Type 1
RowReads = Reads RowThen fit_row RowWithin

-- what a target or a statement is printed as does not matter to what is read
target_as : (m : Counts) (l : ℕ) (s t : Statement) (i j : Counts) → ◌≡◌ {A = Statement × Counts} (s, i) (t, j) → TargetReads i m l s (printed_statement s) → TargetReads j m l t (printed_statement t)
target_as m l s t i j e r = subst (λ (x : Statement × Counts). TargetReads x.1 m l x.0 (printed_statement x.0)) e r

statement_as : (m : Counts) (l : ℕ) (s t : Statement) (i j : Counts) → ◌≡◌ {A = Statement × Counts} (s, i) (t, j) → StatementReads i m l s (printed_statement s) → StatementReads j m l t (printed_statement t)
statement_as m l s t i j e r = subst (λ (x : Statement × Counts). StatementReads x.1 m l x.0 (printed_statement x.0)) e r

row_as : (m : Counts) (l : ℕ) (s t : List Statement) (i j : Counts) → ◌≡◌ {A = List Statement × Counts} (s, i) (t, j) → RowReads i m l s (joined_by (codes "; ") (map printed_statement s)) →
    RowReads j m l t (joined_by (codes "; ") (map printed_statement t))
row_as m l s t i j e r = subst (λ (x : List Statement × Counts). RowReads x.1 m l x.0 (joined_by (codes "; ") (map printed_statement x.0))) e r

target_printed : {n m : Counts} {l : ℕ} {s : Statement} {P Q : List ℕ} → P ≡ Q → TargetReads n m l s Q → TargetReads n m l s P
target_printed {n = n} {m = m} {l = l} {s = s} e r = subst (λ k. TargetReads n m l s k) (sym e) r

statement_printed : {n m : Counts} {l : ℕ} {s : Statement} {P Q : List ℕ} → P ≡ Q → StatementReads n m l s Q → StatementReads n m l s P
statement_printed {n = n} {m = m} {l = l} {s = s} e r = subst (λ k. StatementReads n m l s k) (sym e) r

-- no separators
pub no_separators : (L : Rest) (xs : List Symbol) → L xs → SeparatorsThen L xs
no_separators L [] l = l
no_separators L (x ∷ xs) l = inl l

separators_before : {at : ℕ} {bytes left : List ℕ} {d : ℕ → ℕ} {F : Rest → Rest} → Shown at bytes left d F → Shown at bytes left d (λ L. SeparatorsThen (F L))
separators_before {F = F} a = record { symbols = a.symbols; end = a.end; show = a.show; kept = a.kept; form = λ L rest l. no_separators (F L) (a.symbols ++ rest) (a.form L rest l) }

-- a separator before more statements
pub one_separator : (b : Bool) (s : RawStatement) (raw : RawList) (L : Rest) (x : Symbol) (xs : List Symbol) → (x.sign ≡ mark Newline) ⊎ (x.sign ≡ mark Semi) → ListThen (more s raw) L xs →
    Between b (ListThen (more s raw) L) (x ∷ xs)
one_separator true s none L x xs is l = inr (is, l)
one_separator true s (more t raw) L x xs is l = inr (is, l)
one_separator false s raw L x xs (inl e) l = inl (e, l)
one_separator false s raw L x xs (inr e) l = inr (e, l)

semi_between : (b : Bool) (s : RawStatement) (raw : RawList) (L : Rest) (xs : List Symbol) → Mark Semi (ListThen (more s raw) L) xs → Between b (ListThen (more s raw) L) xs
semi_between b s raw L [] a = absurd a
semi_between b s raw L (x ∷ xs) a = one_separator b s raw L x xs (inr a.0) a.1

-- what stands before the rest may also stand before what follows from it
shown_before : {at : ℕ} {bytes left : List ℕ} {d : ℕ → ℕ} {F : Rest → Rest} (K : Rest → Rest) → ((L : Rest) (xs : List Symbol) → L xs → K L xs) → Shown at bytes left d F →
    Shown at bytes left d (λ L. F (K L))
shown_before K to a = record { symbols = a.symbols; end = a.end; show = a.show; kept = a.kept; form = λ L rest l. a.form (K L) rest (to L rest l) }

one_after : (n m : Counts) (l : ℕ) (x : Statement) (P : List ℕ) → StatementReads n m l x P → RowReads n m l (x ∷ []) P
one_after n m l x P one at gap after white end =
    let a = one at gap after white end in
    record {
      raw = (a.raw, none);
      counts = a.counts;
      shown = separators_before (shown_before SeparatorsThen no_separators a.shown);
      fits = bind_is (fit_statement a.raw m) (λ x. fit_list none x.1 >>= λ y. Ok (x.0 ∷ y.0, y.1)) (x, a.counts) (Ok (x ∷ [], a.counts)) a.fits refl;
      same = a.same;
      within = (a.within, tt);
    }

more_after : (n i m : Counts) (l : ℕ) (x : Statement) (ys : List Statement) (P Q : List ℕ) → StatementReads n m l x P → ((k : Counts) → Same n k → RowReads i k l ys Q) →
    RowReads i m l (x ∷ ys) (P ++ (codes "; " ++ Q))
more_after n i m l x ys P Q one others at gap after white end =
    let a = one at gap (codes "; " ++ (Q ++ after)) white (semi_ends _) in
    let d = semi_shown a.shown.end [] (codes " " ++ (Q ++ after)) refl in
    let b = others a.counts a.same d.end (codes " ") after refl end in
    let joined_two = shown_as (λ d. refl) (λ L xs f. semi_between (ends_in_brace a.raw) b.raw.0 b.raw.1 L xs f) (shown_then d b.shown) in
    record {
      raw = (a.raw, more b.raw.0 b.raw.1);
      counts = b.counts;
      shown = subst (λ (k : List ℕ). Shown at (gap ++ k) after (λ d. d) (ListThen (more a.raw (more b.raw.0 b.raw.1)))) (sym (append_assoc P (codes "; " ++ Q) after))
          (separators_before (shown_then a.shown joined_two));
      fits = bind_is (fit_statement a.raw m) (λ x. fit_list (more b.raw.0 b.raw.1) x.1 >>= λ y. Ok (x.0 ∷ y.0, y.1)) (x, a.counts) (Ok (x ∷ ys, b.counts)) a.fits
          (bind_is (fit_list (more b.raw.0 b.raw.1) a.counts) (λ y. Ok (x ∷ y.0, y.1)) (ys, b.counts) (Ok (x ∷ ys, b.counts)) b.fits refl);
      same = b.same;
      within = (a.within, b.within);
    }

-- statements that fit are at least as many
block_row : (s : RawStatement) (raw : RawList) (n i : Counts) (ss : List Statement) → fit_list (more s raw) n ≡ Ok (ss, i) →
    printed_block (map printed_statement ss) ≡ codes "{ " ++ (joined_by (codes "; ") (map printed_statement ss) ++ codes " }")
block_row s raw n i ss e =
    let x = bind_ok (fit_statement s n) (λ x. fit_list raw x.1 >>= λ y. Ok (x.0 ∷ y.0, y.1)) (ss, i) e in
    let y = bind_ok (fit_list raw x.0.1) (λ y. Ok (x.0.0 ∷ y.0, y.1)) (ss, i) x.2 in
    subst (λ (z : List Statement × Counts). printed_block (map printed_statement z.0) ≡ codes "{ " ++ (joined_by (codes "; ") (map printed_statement z.0) ++ codes " }"))
    (ok_pair (x.0.0 ∷ y.0.0, y.0.1) (ss, i) y.2) refl

joined_row : (s : RawStatement) (raw : RawList) (n i : Counts) (v : Statement) (ss : List Statement) → fit_list (more s raw) n ≡ Ok (ss, i) →
    joined_by (codes "; ") (map printed_statement (v ∷ ss)) ≡ printed_statement v ++ (codes "; " ++ joined_by (codes "; ") (map printed_statement ss))
joined_row s raw n i v ss e =
    let x = bind_ok (fit_statement s n) (λ x. fit_list raw x.1 >>= λ y. Ok (x.0 ∷ y.0, y.1)) (ss, i) e in
    let y = bind_ok (fit_list raw x.0.1) (λ y. Ok (x.0.0 ∷ y.0, y.1)) (ss, i) x.2 in
    subst (λ (z : List Statement × Counts). joined_by (codes "; ") (map printed_statement (v ∷ z.0)) ≡ printed_statement v ++ (codes "; " ++ joined_by (codes "; ") (map printed_statement z.0)))
    (ok_pair (x.0.0 ∷ y.0.0, y.0.1) (ss, i) y.2) refl

empty_block : (n m : Counts) (l : ℕ) → 0 < l → Same n m → TargetReads n m l (Block []) (codes "{ }")
empty_block n m l h same at gap after white end =
    let o = open_brace_shown at gap (codes " }" ++ after) white in
    let c = close_brace_shown o.end (codes " ") after refl in
    record {
      raw = block none;
      counts = m;
      shown = shown_then o (separators_before c);
      fits = refl;
      same = same;
      within = (h, tt);
    }

full_block : (n m : Counts) (l : ℕ) (ss : List Statement) (P : List ℕ) → 0 < l → RowReads n m (l - 1) ss P → TargetReads n m l (Block ss) (codes "{ " ++ (P ++ codes " }"))
full_block n m l ss P h row at gap after white end =
    let o = open_brace_shown at gap (codes " " ++ (P ++ (codes " }" ++ after))) white in
    let a = row o.end (codes " ") (codes " }" ++ after) refl (space_ends _) in
    let c = close_brace_shown a.shown.end (codes " ") after refl in
    record {
      raw = block (more a.raw.0 a.raw.1);
      counts = a.counts;
      shown = subst (λ (k : List ℕ). Shown at (gap ++ (123 ∷ 32 ∷ k)) after (λ d. d) (TargetThen (block (more a.raw.0 a.raw.1)))) (sym (append_assoc P (codes " }") after))
          (shown_then o (shown_then a.shown c));
      fits = bind_is (fit_list (more a.raw.0 a.raw.1) m) (λ x. Ok (Block x.0, x.1)) (ss, a.counts) (Ok (Block ss, a.counts)) a.fits refl;
      same = a.same;
      within = (h, a.within);
    }

word_target : (n m : Counts) (l : ℕ) → Same n m → TargetReads n m l (Act actions.Restart) (codes "restart") × TargetReads n m l (Act actions.Done) (codes "done")
word_target n m l same = (
  λ at gap after white end. record {
    raw = restart;
    counts = m;
    shown = keyword_shown at gap (codes "restart") after white (omega arith, pieces_end false (codes "restart") after end, end.dark);
    fits = refl;
    same = same;
    within = tt;
  },
  λ at gap after white end. record {
    raw = done;
    counts = m;
    shown = keyword_shown at gap (codes "done") after white (omega arith, pieces_end false (codes "done") after end, end.dark);
    fits = refl;
    same = same;
    within = tt;
  },
)

act_reads : (n m : Counts) (l : ℕ) (s : Statement) (P : List ℕ) → TargetReads n m l s P → StatementReads n m l s P
act_reads n m l s P one at gap after white end =
    let a = one at gap after white end in
    record { raw = act a.raw; counts = a.counts; shown = a.shown; fits = a.fits; same = a.same; within = a.within }

when_reads : (n i m : Counts) (l : ℕ) (p : Predicate) (t : Statement) (P Q : List ℕ) → PredicateReads n m l p P → ((k : Counts) → Same n k → TargetReads i k l t Q) →
    StatementReads i m l (When p t None) (P ++ (codes " -> " ++ (Q ++ [])))
when_reads n i m l p t P Q test_part yes_part at gap after white end =
    let a = test_part at gap (codes " -> " ++ (Q ++ after)) white (space_ends _) in
    let w = arrow_shown a.shown.end (codes " ") (codes " " ++ (Q ++ after)) refl in
    let b = yes_part a.counts a.same w.end (codes " ") after refl end in
    record {
      raw = when a.raw b.raw;
      counts = b.counts;
      shown = subst (λ (k : List ℕ). Shown at (gap ++ k) after (λ d. d) (StatementThen (when a.raw b.raw)))
          (sym (append_assoc P (codes " -> " ++ (Q ++ [])) after ∙ ap (λ k. P ++ (codes " -> " ++ (k ++ after))) (append-nil Q)))
          (shown_then a.shown (shown_then w b.shown));
      fits = bind_is (fit_predicate a.raw m) (λ x. fit_target b.raw x.1 >>= λ y. Ok (When x.0 y.0 None, y.1)) (p, a.counts) (Ok (When p t None, b.counts)) a.fits
          (bind_is (fit_target b.raw a.counts) (λ y. Ok (When p y.0 None, y.1)) (t, b.counts) (Ok (When p t None, b.counts)) b.fits refl);
      same = b.same;
      within = (a.within, b.within);
    }

else_reads : (n i j m : Counts) (l : ℕ) (p : Predicate) (t s : Statement) (P Q R : List ℕ) → 0 < l → PredicateReads n m l p P → ((k : Counts) → Same n k → TargetReads i k l t Q) →
    ((k : Counts) → Same i k → StatementReads j k (l - 1) s R) → StatementReads j m l (When p t (Some s)) (P ++ (codes " -> " ++ (Q ++ (codes " else " ++ R))))
else_reads n i j m l p t s P Q R h test_part yes_part other_part at gap after white end =
    let a = test_part at gap (codes " -> " ++ (Q ++ (codes " else " ++ (R ++ after)))) white (space_ends _) in
    let w = arrow_shown a.shown.end (codes " ") (codes " " ++ (Q ++ (codes " else " ++ (R ++ after)))) refl in
    let b = yes_part a.counts a.same w.end (codes " ") (codes " else " ++ (R ++ after)) refl (space_ends _) in
    let e = keyword_shown b.shown.end (codes " ") (codes "else") (codes " " ++ (R ++ after)) refl (omega arith, refl, refl) in
    let c = other_part b.counts b.same e.end (codes " ") after refl end in
    let maybe = shown_as {G = λ L. MaybeArrow (StatementThen c.raw L)} (λ d. refl) (λ L xs f. inl f) c.shown in
    let tail = separators_before (shown_then e maybe) in
    record {
      raw = when_else a.raw b.raw c.raw;
      counts = c.counts;
      shown = subst (λ (k : List ℕ). Shown at (gap ++ k) after (λ d. d) (StatementThen (when_else a.raw b.raw c.raw)))
          (sym (append_assoc P (codes " -> " ++ (Q ++ (codes " else " ++ R))) after ∙ ap (λ k. P ++ (codes " -> " ++ k)) (append_assoc Q (codes " else " ++ R) after)))
          (shown_then a.shown (shown_then w (shown_then b.shown tail)));
      fits = bind_is (fit_predicate a.raw m) (λ x. fit_target b.raw x.1 >>= λ y. fit_statement c.raw y.1 >>= λ z. Ok (When x.0 y.0 (Some z.0), z.1)) (p, a.counts) (Ok (When p t (Some s), c.counts)) a.fits
          (bind_is (fit_target b.raw a.counts) (λ y. fit_statement c.raw y.1 >>= λ z. Ok (When p y.0 (Some z.0), z.1)) (t, b.counts) (Ok (When p t (Some s), c.counts)) b.fits
          (bind_is (fit_statement c.raw b.counts) (λ z. Ok (When p t (Some z.0), z.1)) (s, c.counts) (Ok (When p t (Some s), c.counts)) c.fits refl));
      same = c.same;
      within = (a.within, b.within, h, c.within);
    }

abbrev IsMore : RawList → Type 0
IsMore none = ⊥
IsMore (more r raw) = Unit {0}

abbrev RowsRead : RawList → ℕ → Type 1
RowsRead raw l = (n i m : Counts) (ss : List Statement) → IsMore raw → fit_list raw n ≡ Ok (ss, i) → Same n m → RowReads i m l ss (joined_by (codes "; ") (map printed_statement ss))

row_step : (r : RawStatement) (raw : RawList) (l : ℕ) (n i m : Counts) (ss : List Statement) → fit_list (more r raw) n ≡ Ok (ss, i) →
    ((x : Statement) (j : Counts) → fit_statement r n ≡ Ok (x, j) → StatementReads j m l x (printed_statement x)) → RowsRead raw l →
    RowReads i m l ss (joined_by (codes "; ") (map printed_statement ss))
row_step r none l n i m ss e one others =
    let x = bind_ok (fit_statement r n) (λ x. fit_list none x.1 >>= λ y. Ok (x.0 ∷ y.0, y.1)) (ss, i) e in
    row_as m l (x.0.0 ∷ []) ss x.0.1 i (ok_pair (x.0.0 ∷ [], x.0.1) (ss, i) x.2) (one_after x.0.1 m l x.0.0 (printed_statement x.0.0) (one x.0.0 x.0.1 x.1))
row_step r (more t raw) l n i m ss e one others =
    let x = bind_ok (fit_statement r n) (λ x. fit_list (more t raw) x.1 >>= λ y. Ok (x.0 ∷ y.0, y.1)) (ss, i) e in
    let y = bind_ok (fit_list (more t raw) x.0.1) (λ y. Ok (x.0.0 ∷ y.0, y.1)) (ss, i) x.2 in
    let both = more_after x.0.1 y.0.1 m l x.0.0 y.0.0 (printed_statement x.0.0) (joined_by (codes "; ") (map printed_statement y.0.0)) (one x.0.0 x.0.1 x.1)
    (λ k a. others x.0.1 y.0.1 k y.0.0 tt y.1 a) in
    row_as m l (x.0.0 ∷ y.0.0) ss y.0.1 i (ok_pair (x.0.0 ∷ y.0.0, y.0.1) (ss, i) y.2)
    (subst (λ k. RowReads y.0.1 m l (x.0.0 ∷ y.0.0) k) (sym (joined_row t raw x.0.1 y.0.1 x.0.0 y.0.0 y.1)) both)

block_step : (raw : RawList) (l : ℕ) (n i m : Counts) (s : Statement) → 0 < l → fit_target (block raw) n ≡ Ok (s, i) → Same n m → RowsRead raw (l - 1) →
    TargetReads i m l s (printed_statement s)
block_step none l n i m s h e same rows =
    target_as m l (Block []) s n i (ok_pair (Block [], n) (s, i) e) (target_printed (of_block []) (empty_block n m l h same))
block_step (more u raw) l n i m s h e same rows =
    let x = bind_ok (fit_list (more u raw) n) (λ x. Ok (Block x.0, x.1)) (s, i) e in
    target_as m l (Block x.0.0) s x.0.1 i (ok_pair (Block x.0.0, x.0.1) (s, i) x.2)
    (target_printed (of_block x.0.0 ∙ block_row u raw n x.0.1 x.0.0 x.1)
    (full_block x.0.1 m l x.0.0 (joined_by (codes "; ") (map printed_statement x.0.0)) h (rows n x.0.1 m x.0.0 tt x.1 same)))

module _ (Fine : RawCall → Type 0) (tests : TestsRead Fine) (handlers : ActionsRead Fine) where
  action_target : (c : RawCall) (n i m : Counts) (l : ℕ) (a : Action) → Fine c → fit_action c n ≡ Ok (a, i) → Same n m → TargetReads i m l (Act a) (printed_action a)
  action_target c n i m l a fine e same at gap after white end =
      let b = handlers c n i m a fine e same at gap after white end in
      record {
        raw = handler b.raw;
        counts = b.counts;
        shown = b.shown;
        fits = bind_is (fit_action b.raw m) (λ x. Ok (Act x.0, x.1)) (a, b.counts) (Ok (Act a, b.counts)) b.fits refl;
        same = b.same;
        within = tt;
      }

  mutual
    target_back : (t : RawTarget) (l : ℕ) (n i m : Counts) (s : Statement) → OfTarget Fine t → TargetWithin l t → fit_target t n ≡ Ok (s, i) → Same n m → TargetReads i m l s (printed_statement s)
    target_back (handler c) l n i m s fine w e same =
        let x = bind_ok (fit_action c n) (λ x. Ok (Act x.0, x.1)) (s, i) e in
        target_as m l (Act x.0.0) s x.0.1 i (ok_pair (Act x.0.0, x.0.1) (s, i) x.2)
        (target_printed (of_act x.0.0) (action_target c n x.0.1 m l x.0.0 fine x.1 same))
    target_back restart l n i m s fine w e same =
        target_as m l (Act actions.Restart) s n i (ok_pair (Act actions.Restart, n) (s, i) e) (target_printed (of_act actions.Restart) (word_target n m l same).0)
    target_back done l n i m s fine w e same =
        target_as m l (Act actions.Done) s n i (ok_pair (Act actions.Done, n) (s, i) e) (target_printed (of_act actions.Done) (word_target n m l same).1)
    target_back (block raw) l n i m s fine w e same =
        block_step raw l n i m s w.0 e same (λ n' i' k ss h g a. row_back raw (l - 1) n' i' k ss fine w.1 h g a)

    statement_back : (r : RawStatement) (l : ℕ) (n i m : Counts) (s : Statement) → OfStatement Fine r → StatementWithin l r → fit_statement r n ≡ Ok (s, i) → Same n m →
        StatementReads i m l s (printed_statement s)
    statement_back (act t) l n i m s fine w e same = act_reads i m l s (printed_statement s) (target_back t l n i m s fine w e same)
    statement_back (when p t) l n i m s fine w e same =
        let x = bind_ok (fit_predicate p n) (λ x. fit_target t x.1 >>= λ y. Ok (When x.0 y.0 None, y.1)) (s, i) e in
        let y = bind_ok (fit_target t x.0.1) (λ y. Ok (When x.0.0 y.0 None, y.1)) (s, i) x.2 in
        statement_as m l (When x.0.0 y.0.0 None) s y.0.1 i (ok_pair (When x.0.0 y.0.0 None, y.0.1) (s, i) y.2)
        (statement_printed (of_when x.0.0 y.0.0)
        (when_reads x.0.1 y.0.1 m l x.0.0 y.0.0 (printed_at x.0.0 0) (printed_statement y.0.0) (predicate_reads Fine tests p l n x.0.1 m x.0.0 fine.0 w.0 x.1 same)
        (λ k a. target_back t l x.0.1 y.0.1 k y.0.0 fine.1 w.1 y.1 a)))
    statement_back (when_else p t r) l n i m s fine w e same =
        let x = bind_ok (fit_predicate p n) (λ x. fit_target t x.1 >>= λ y. fit_statement r y.1 >>= λ z. Ok (When x.0 y.0 (Some z.0), z.1)) (s, i) e in
        let y = bind_ok (fit_target t x.0.1) (λ y. fit_statement r y.1 >>= λ z. Ok (When x.0.0 y.0 (Some z.0), z.1)) (s, i) x.2 in
        let z = bind_ok (fit_statement r y.0.1) (λ z. Ok (When x.0.0 y.0.0 (Some z.0), z.1)) (s, i) y.2 in
        statement_as m l (When x.0.0 y.0.0 (Some z.0.0)) s z.0.1 i (ok_pair (When x.0.0 y.0.0 (Some z.0.0), z.0.1) (s, i) z.2)
        (statement_printed (of_else x.0.0 y.0.0 z.0.0)
        (else_reads x.0.1 y.0.1 z.0.1 m l x.0.0 y.0.0 z.0.0 (printed_at x.0.0 0) (printed_statement y.0.0) (printed_statement z.0.0) w.2
        (predicate_reads Fine tests p l n x.0.1 m x.0.0 fine.0 w.0 x.1 same) (λ k a. target_back t l x.0.1 y.0.1 k y.0.0 fine.1 w.1 y.1 a)
        (λ k a. statement_back r (l - 1) y.0.1 z.0.1 k z.0.0 fine.2 w.3 z.1 a)))

    row_back : (raw : RawList) (l : ℕ) (n i m : Counts) (ss : List Statement) → OfList Fine raw → ListWithin l raw → IsMore raw → fit_list raw n ≡ Ok (ss, i) → Same n m →
        RowReads i m l ss (joined_by (codes "; ") (map printed_statement ss))
    row_back none l n i m ss fine w h e same = absurd h
    row_back (more r raw) l n i m ss fine w h e same =
        row_step r raw l n i m ss e (λ x j g. statement_back r l n j m x fine.0 w.0 g same) (λ n' i' k ys more_of g a. row_back raw l n' i' k ys fine.1 w.1 more_of g a)

  pub statement_reads : (r : RawStatement) (l : ℕ) (n i m : Counts) (s : Statement) → OfStatement Fine r → StatementWithin l r → fit_statement r n ≡ Ok (s, i) → Same n m →
      StatementReads i m l s (printed_statement s)
  statement_reads = statement_back
