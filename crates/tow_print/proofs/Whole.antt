-- The printed form of a text's tree is a text with that tree, given that each printed call is read again.
use Rattle.std.specs.Prelude.{◌≡◌, ℕ, ◌+◌, ◌≤◌, List, [], ◌∷◌, ◌++◌, length, Ok, IsUtf8}
use Rattle.std.proofs.Common.{refl, sym, ap, ◌∙◌, subst, append_assoc}
use mathlib.Core.Logic.{inl, inr}
use Rattle.tow_language.specs.declared.token.TokenKind.TheVariants.{Newline}
use Rattle.tow_model.specs.declared.statement.Statement.{Statement}
use Rattle.tow_language.specs.Symbols.{mark, Symbol, joined}
use Rattle.tow_language.specs.Raw.{RawCall, RawStatement, RawList, none, more}
use Rattle.tow_language.specs.Grammar.{AtEnd, SeparatorsThen, ends_in_brace, Between, StatementThen, ListThen}
use Rattle.tow_language.specs.Levels.{ListWithin}
use Rattle.tow_language.specs.Fit.{Counts, ◌>>=◌, fit_statement, fit_list, no_counts}
use Rattle.tow_language.specs.Fault.{IsTreeOf}
use Rattle.tow_language.specs.Printed.{printed_statement, print_of}
use Rattle.tow_print.proofs.Cuts.{show_cuts}
use Rattle.tow_print.proofs.Marks.{line_ends}
use Rattle.tow_print.proofs.Predicates.{Same, TestsRead, bind_ok, bind_is, ok_pair}
use Rattle.tow_print.proofs.Shown.{Show, show_then}
use Rattle.tow_print.proofs.Statements.{OfList, ActionsRead, StatementReads, no_separators, one_separator, statement_reads}

-- the printed form from a place on, as a list that fits the same statements
record Top (m : Counts) (l at : ℕ) (tree : List Statement) : Type 0 where
  raw : RawList
  counts : Counts
  symbols : List Symbol
  end : ℕ
  show : Show at (print_of tree) symbols end []
  kept : joined 0 symbols ≡ symbols
  form : ListThen raw AtEnd symbols
  fits : fit_list raw m ≡ Ok (tree, counts)
  within : ListWithin l raw

top_as : (m : Counts) (l at : ℕ) (s t : List Statement) (i j : Counts) → ◌≡◌ {A = List Statement × Counts} (s, i) (t, j) → Top m l at s → Top m l at t
top_as m l at s t i j e = subst (λ (x : List Statement × Counts). Top m l at x.0) e

-- a statement, a line end and more statements
top_form : (s : RawStatement) (raw : RawList) (x : Symbol) (xs : List Symbol) → x.sign ≡ mark Newline → ListThen raw AtEnd xs → (ys : List Symbol) →
    ((L : List Symbol → Type 0) → L (x ∷ xs) → StatementThen s L ys) → ListThen (more s raw) AtEnd ys
top_form s none x xs e a ys form = no_separators (StatementThen s (SeparatorsThen AtEnd)) ys (form (SeparatorsThen AtEnd) (inr (inl e, a)))
top_form s (more t raw) x xs e a ys form =
    no_separators (StatementThen s (Between (ends_in_brace s) (ListThen (more t raw) AtEnd))) ys (form (Between (ends_in_brace s) (ListThen (more t raw) AtEnd)) (one_separator (ends_in_brace s) t raw AtEnd x xs (inl e) a))

top_more : (n m : Counts) (l at : ℕ) (x : Statement) (ys : List Statement) → StatementReads n m l x (printed_statement x) → ((k : Counts) (from : ℕ) → Same n k → Top k l from ys) → Top m l at (x ∷ ys)
top_more n m l at x ys one others =
    let a = one at [] (10 ∷ print_of ys) refl (line_ends _) in
    let from = a.shown.end + length {A = ℕ} [] + length {A = ℕ} (10 ∷ []) in
    let b = others a.counts from a.same in
    let line : Symbol = record { sign = mark Newline; place = a.shown.end + length {A = ℕ} [] } in
    record {
      raw = more a.raw b.raw;
      counts = b.counts;
      symbols = a.shown.symbols ++ (line ∷ b.symbols);
      end = b.end;
      show = subst (λ (k : List ℕ). Show at k (a.shown.symbols ++ (line ∷ b.symbols)) b.end []) (sym (append_assoc (printed_statement x) (10 ∷ []) (print_of ys)))
          (show_then at a.shown.end b.end (printed_statement x ++ (10 ∷ print_of ys)) (10 ∷ print_of ys) [] a.shown.symbols (line ∷ b.symbols) a.shown.show
          (Newline, [], 10 ∷ [], print_of ys, refl, refl, refl, refl, b.show));
      kept = a.shown.kept 0 (line ∷ b.symbols) ∙ ap (λ k. a.shown.symbols ++ (line ∷ k)) b.kept;
      form = top_form a.raw b.raw line b.symbols refl b.form (a.shown.symbols ++ (line ∷ b.symbols)) (λ L h. a.shown.form L (line ∷ b.symbols) h);
      fits = bind_is (fit_statement a.raw m) (λ z. fit_list b.raw z.1 >>= λ y. Ok (z.0 ∷ y.0, y.1)) (x, a.counts) (Ok (x ∷ ys, b.counts)) a.fits
          (bind_is (fit_list b.raw a.counts) (λ y. Ok (x ∷ y.0, y.1)) (ys, b.counts) (Ok (x ∷ ys, b.counts)) b.fits refl);
      within = (a.within, b.within);
    }

module _ (Fine : RawCall → Type 0) (tests : TestsRead Fine) (handlers : ActionsRead Fine) where
  top_back : (raw : RawList) (l : ℕ) (n i m : Counts) (tree : List Statement) → OfList Fine raw → ListWithin l raw → fit_list raw n ≡ Ok (tree, i) → Same n m → (at : ℕ) → Top m l at tree
  top_back none l n i m tree fine w e same at =
      top_as m l at [] tree n i (ok_pair ([], n) (tree, i) e)
      (record { raw = none; counts = m; symbols = []; end = at; show = (refl, refl); kept = refl; form = refl; fits = refl; within = tt })
  top_back (more s raw) l n i m tree fine w e same at =
      let x = bind_ok (fit_statement s n) (λ x. fit_list raw x.1 >>= λ y. Ok (x.0 ∷ y.0, y.1)) (tree, i) e in
      let y = bind_ok (fit_list raw x.0.1) (λ y. Ok (x.0.0 ∷ y.0, y.1)) (tree, i) x.2 in
      top_as m l at (x.0.0 ∷ y.0.0) tree y.0.1 i (ok_pair (x.0.0 ∷ y.0.0, y.0.1) (tree, i) y.2)
      (top_more x.0.1 m l at x.0.0 y.0.0 (statement_reads Fine tests handlers s l n x.0.1 m x.0.0 fine.0 w.0 x.1 same)
      (λ k from a. top_back raw l x.0.1 y.0.1 k y.0.0 fine.1 w.1 y.1 a from))

  -- the calls of a derivation that is within 32 levels are such: then the printed form of its statements has them
  pub print_reads : (raw : RawList) (i : Counts) (tree : List Statement) → OfList Fine raw → ListWithin 32 raw → fit_list raw no_counts ≡ Ok (tree, i) →
      length (print_of tree) ≤ 65536 → IsUtf8 (print_of tree) → IsTreeOf (print_of tree) tree
  print_reads raw i tree fine w e short utf8 =
      let same : Same no_counts no_counts = record { limits = refl; logs = refl; patterns = refl } in
      let t = top_back raw 32 no_counts i no_counts tree fine w e same 0 in
      let c = show_cuts (print_of tree) [] (print_of tree) 0 t.symbols t.end [] refl refl t.show in
      let form : ListThen t.raw AtEnd (joined 0 t.symbols) = subst (λ (k : List Symbol). ListThen t.raw AtEnd k) (sym t.kept) t.form in
      (t.raw, (c.0, record { short = short; utf8 = utf8; whole = c.1 }, (t.within, subst (λ (k : List Symbol). ListThen t.raw AtEnd (joined 0 k)) (sym c.2) form)), (t.counts, t.fits))
