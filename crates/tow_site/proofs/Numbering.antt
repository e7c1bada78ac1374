-- The fit numbers the patterns of a tree in the order of the text, and keeps the place of each.
use Rattle.std.proofs.Common.{◌≡◌, ℕ, zero, suc, ◌+◌, List, [], ◌∷◌, ◌++◌, length, map, Bool, true, false, Ok, Err, refl, sym, ◌∙◌, ap, ap₂, subst, arith, length-append}
use Rattle.std.proofs.lemmas.List.{map-append}
use Rattle.std.specs.Prelude.{Result, if◌then◌else◌, ◌&&◌, nat_le}
use Rattle.std.specs.List.{range_with_len}
use Rattle.tow_model.specs.declared.action.Action.{Action}
use Rattle.tow_language.specs.declared.kind.Kind.TheVariants.{TooManyLimits, UnknownName}
use Rattle.tow_model.specs.declared.predicate.Predicate.{Predicate}
use Rattle.tow_model.specs.declared.predicate.Predicate.TheVariants as p
use Rattle.tow_model.specs.declared.statement.Statement.{Statement, fold-roll-Statement}
use Rattle.tow_model.specs.declared.statement.Statement.TheVariants as st
use Rattle.tow_model.specs.declared.statement.Statement.TheOpen as sf
use Rattle.tow_language.specs.declared.table.Given.{Given}
use Rattle.tow_language.specs.declared.table.Given.TheVariants as givens
use Rattle.tow_language.specs.declared.table.Handler.{Handler}
use Rattle.tow_language.specs.declared.table.Handler.TheVariants as handlers
use Rattle.tow_language.specs.declared.table.TestName.{TestName}
use Rattle.tow_language.specs.declared.table.TestName.TheVariants as names
use Rattle.tow_language.specs.Fit.{Counts, Fitted, TextFault, ◌>>=◌, wanted, fault, givens_of, is_limit, made_test, made_action, fit_test, fit_action, fit_predicate, fit_or, fit_conjunction, fit_and, fit_factor, fit_target, fit_statement, fit_list, fit, no_counts}
use Rattle.tow_semantics.specs.Predicates.{pattern_of, patterns_in}
use Rattle.tow_language.specs.Raw.{RawCall, RawPredicate, alone, or_more, RawConjunction, single, and_more, RawFactor, test, negated, grouped, RawTarget, handler, restart, done, block, RawStatement, act, when, when_else, RawList, none, more}
use Rattle.tow_language.specs.Table.{test_named, test_parameters, handler_named, handler_parameters}
use Rattle.tow_model.specs.Texts.{Text}
use Rattle.tow_pred.specs.Numbering.{statement_patterns_by, statement_patterns, tree_patterns, IsNumbered}
use Rattle.tow_pred.proofs.Among.{patterns_in_is, patterns_in_not, patterns_in_and, patterns_in_or}
use Rattle.tow_pred.proofs.Trees.{patterns_in_when, patterns_in_else, patterns_in_block}

-- regex tests with their numbers and patterns
abbrev pub Patterns : Type 0
Patterns = List (ℕ × Text)

-- these tests, the next ones of a text, are numbered by the count of their places
pub record Numbers (before now : Counts) (tests : Patterns) : Type 0 where
  pub numbered : map (λ t. t.0) tests ≡ range_with_len (length before.patterns) (length tests)
  pub places : length now.patterns ≡ length before.patterns + length tests

-- LISTS OF TESTS

range-append : (a m n : ℕ) → range_with_len a (m + n) ≡ range_with_len a m ++ range_with_len (a + m) n
range-append a zero n =
    let none : zero + n ≡ n = omega arith in
    let start : a ≡ a + zero = omega arith in
    ap (range_with_len a) none ∙ ap (λ b. range_with_len b n) start
range-append a (suc m) n =
    let one : suc m + n ≡ suc (m + n) = omega arith in
    let start : (a + 1) + m ≡ a + suc m = omega arith in
    ap (range_with_len a) one ∙ ap (λ l. a ∷ l) (range-append (a + 1) m n ∙ ap (λ b. range_with_len (a + 1) m ++ range_with_len b n) start)

-- some tests after others
joined : (first next last : Counts) (xs ys : Patterns) → Numbers first next xs → Numbers next last ys → Numbers first last (xs ++ ys)
joined first next last xs ys one two =
    let from = length first.patterns in
    let sum = length-append xs ys in
    let before = one.places in
    let behind = two.places in
    record {
      numbered =
          map-append (λ t. t.0) xs ys ∙ ap₂ (λ (a b : List ℕ). a ++ b) one.numbered (two.numbered ∙ ap (λ k. range_with_len k (length ys)) before)
          ∙ sym (range-append from (length xs) (length ys)) ∙ ap (range_with_len from) (sym sum);
      places = omega (arith, sum, before, behind);
    }

-- no test
nothing : (n m : Counts) → length m.patterns ≡ length n.patterns → Numbers n m []
nothing n m same = record { numbered = refl; places = same ∙ (let e : length n.patterns ≡ length n.patterns + 0 = omega arith in e) }

same_tests : (n m : Counts) (xs ys : Patterns) → ys ≡ xs → Numbers n m xs → Numbers n m ys
same_tests n m xs ys same is = subst (λ (ts : Patterns). Numbers n m ts) (sym same) is

-- WHAT WAS FITTED

-- what was fitted has the next tests of a text
abbrev Fits : {A : Type 0} → (A → Patterns) → Counts → Fitted A → Type 0
Fits f n (Ok x) = Numbers n x.1 (f x.0)
Fits f n (Err e) = Unit {0}

-- and so has what was fitted from it
bound : {A B : Type 0} (f : A → Patterns) (g : B → Patterns) (n m : Counts) (r : Fitted A) (k : A × Counts → Fitted B) →
    Fits f n r → ((x : A × Counts) → Numbers n x.1 (f x.0) → Fits g m (k x)) → Fits g m (r >>= k)
bound f g n m (Ok x) k is on = on x is
bound f g n m (Err e) k is on = tt

-- whatever came before
past : {A B : Type 0} (g : B → Patterns) (m : Counts) (r : Result A TextFault) (k : A → Fitted B) → ((x : A) → Fits g m (k x)) → Fits g m (r >>= k)
past g m (Ok x) k is = is x
past g m (Err e) k is = tt

-- TESTS

made_numbers : (name : TestName) (gs : List Given) (n : Counts) → Numbers n (made_test name gs n).1 (pattern_of (made_test name gs n).0)
made_numbers names.True [] n = nothing n n refl
made_numbers names.False [] n = nothing n n refl
made_numbers names.Path (givens.Texts paths ∷ []) n = nothing n n refl
made_numbers names.PathPrefix (givens.Texts paths ∷ []) n = nothing n n refl
made_numbers names.PathSuffix (givens.Texts paths ∷ []) n = nothing n n refl
made_numbers names.PathTemplate (givens.Segments parts ∷ givens.Template value ∷ []) n = nothing n n refl
made_numbers names.Regex (givens.Pattern pattern place ∷ givens.Template value ∷ []) n =
    record { numbered = refl; places = length-append n.patterns (place ∷ []) }
made_numbers names.Method (givens.Texts methods ∷ []) n = nothing n n refl
made_numbers names.Equals (givens.Templates values ∷ []) n = nothing n n refl
made_numbers names.Contains (givens.Template value ∷ givens.Texts texts ∷ []) n = nothing n n refl
made_numbers names.Exists (givens.Template value ∷ []) n = nothing n n refl
made_numbers name other n = nothing n n refl

test_numbers : (c : RawCall) (n : Counts) → Fits pattern_of n (fit_test c n)
test_numbers c n =
    past pattern_of n (wanted (test_named c.name.bytes) UnknownName c.name.place) _
    (λ name. past pattern_of n (givens_of (test_parameters name) c) _ (λ gs. made_numbers name gs n))

-- PREDICATES

-- a predicate that is joined with what stands before it
both : (first next last : Counts) (a b : Predicate) → Numbers first next (patterns_in a) → Numbers next last (patterns_in b) → Numbers first last (patterns_in (p.And a b))
both first next last a b one two = same_tests first last _ _ (patterns_in_and a b) (joined first next last (patterns_in a) (patterns_in b) one two)

either : (first next last : Counts) (a b : Predicate) → Numbers first next (patterns_in a) → Numbers next last (patterns_in b) → Numbers first last (patterns_in (p.Or a b))
either first next last a b one two = same_tests first last _ _ (patterns_in_or a b) (joined first next last (patterns_in a) (patterns_in b) one two)

mutual
  predicate_numbers : (raw : RawPredicate) (n : Counts) → Fits patterns_in n (fit_predicate raw n)
  predicate_numbers (alone c) n = conjunction_numbers c n
  predicate_numbers (or_more c raw) n = bound patterns_in patterns_in n n (fit_conjunction c n) _ (conjunction_numbers c n) (λ x is. or_numbers raw x.0 n x.1 is)

  or_numbers : (raw : RawPredicate) (left : Predicate) (first n : Counts) → Numbers first n (patterns_in left) → Fits patterns_in first (fit_or raw left n)
  or_numbers (alone c) left first n before =
      bound patterns_in patterns_in n first (fit_conjunction c n) _ (conjunction_numbers c n) (λ x is. either first n x.1 left x.0 before is)
  or_numbers (or_more c raw) left first n before =
      bound patterns_in patterns_in n first (fit_conjunction c n) _ (conjunction_numbers c n) (λ x is. or_numbers raw (p.Or left x.0) first x.1 (either first n x.1 left x.0 before is))

  conjunction_numbers : (raw : RawConjunction) (n : Counts) → Fits patterns_in n (fit_conjunction raw n)
  conjunction_numbers (single f) n = factor_numbers f n
  conjunction_numbers (and_more f c) n = bound patterns_in patterns_in n n (fit_factor f n) _ (factor_numbers f n) (λ x is. and_numbers c x.0 n x.1 is)

  and_numbers : (raw : RawConjunction) (left : Predicate) (first n : Counts) → Numbers first n (patterns_in left) → Fits patterns_in first (fit_and raw left n)
  and_numbers (single f) left first n before =
      bound patterns_in patterns_in n first (fit_factor f n) _ (factor_numbers f n) (λ x is. both first n x.1 left x.0 before is)
  and_numbers (and_more f c) left first n before =
      bound patterns_in patterns_in n first (fit_factor f n) _ (factor_numbers f n) (λ x is. and_numbers c (p.And left x.0) first x.1 (both first n x.1 left x.0 before is))

  factor_numbers : (raw : RawFactor) (n : Counts) → Fits patterns_in n (fit_factor raw n)
  factor_numbers (test c) n = bound pattern_of patterns_in n n (fit_test c n) _ (test_numbers c n) (λ x is. same_tests n x.1 _ _ (patterns_in_is x.0) is)
  factor_numbers (negated f) n = bound patterns_in patterns_in n n (fit_factor f n) _ (factor_numbers f n) (λ x is. same_tests n x.1 _ _ (patterns_in_not x.0) is)
  factor_numbers (grouped raw) n = predicate_numbers raw n

-- STATEMENTS

patterns_in_act : (a : Action) → statement_patterns (st.Act a) ≡ []
patterns_in_act a = ap statement_patterns (sym (st.rolls-Act a)) ∙ fold-roll-Statement Patterns statement_patterns_by (sf.Act a)

-- an action has no test, and leaves the places
acted_places : (name : Handler) (gs : List Given) (n : Counts) → (made_action name gs n).1.patterns ≡ n.patterns
acted_places handlers.Set (givens.Target target ∷ givens.Template value ∷ []) n = refl
acted_places handlers.Clear (givens.Target target ∷ []) n = refl
acted_places handlers.Rewrite (givens.Template value ∷ []) n = refl
acted_places handlers.Redirect (givens.Template value ∷ []) n = refl
acted_places handlers.ResponseCode (givens.Number status ∷ []) n = refl
acted_places handlers.Header (givens.Text name ∷ givens.Template value ∷ givens.Truth replace ∷ []) n = refl
acted_places handlers.AllowedMethods (givens.Texts methods ∷ []) n = refl
acted_places handlers.RequestLimit (givens.Number most ∷ []) n = refl
acted_places handlers.Resource (givens.Text location ∷ givens.Truth listing ∷ []) n = refl
acted_places handlers.Blocking [] n = refl
acted_places handlers.AccessLog (givens.Template format ∷ []) n = refl
acted_places handlers.Echo [] n = refl
acted_places name other n = refl

abbrev no_tests : Action → Patterns
no_tests action = []

allowed_numbers : (over : Bool) (place : ℕ) (x : Action × Counts) (n : Counts) → x.1.patterns ≡ n.patterns → Fits no_tests n (if over then fault TooManyLimits place else Ok x)
allowed_numbers true place x n same = tt
allowed_numbers false place x n same = nothing n x.1 (ap (λ (l : List ℕ). length l) same)

action_numbers : (c : RawCall) (n : Counts) → Fits no_tests n (fit_action c n)
action_numbers c n =
    past no_tests n (wanted (handler_named c.name.bytes) UnknownName c.name.place) _
    (λ name. past no_tests n (givens_of (handler_parameters name) c) _
    (λ gs. allowed_numbers (is_limit name && nat_le 16 n.limits) c.name.place (made_action name gs n) n (acted_places name gs n)))

mutual
  target_numbers : (raw : RawTarget) (n : Counts) → Fits statement_patterns n (fit_target raw n)
  target_numbers (handler c) n = bound no_tests statement_patterns n n (fit_action c n) _ (action_numbers c n) (λ x is. same_tests n x.1 _ _ (patterns_in_act x.0) is)
  target_numbers restart n = same_tests n n _ _ (patterns_in_act _) (nothing n n refl)
  target_numbers done n = same_tests n n _ _ (patterns_in_act _) (nothing n n refl)
  target_numbers (block raw) n = bound tree_patterns statement_patterns n n (fit_list raw n) _ (list_numbers raw n) (λ x is. same_tests n x.1 _ _ (patterns_in_block x.0) is)

  statement_numbers : (raw : RawStatement) (n : Counts) → Fits statement_patterns n (fit_statement raw n)
  statement_numbers (act t) n = target_numbers t n
  statement_numbers (when q t) n =
      bound patterns_in statement_patterns n n (fit_predicate q n) _ (predicate_numbers q n)
      (λ x is. bound statement_patterns statement_patterns x.1 n (fit_target t x.1) _ (target_numbers t x.1)
      (λ y next. same_tests n y.1 _ _ (patterns_in_when x.0 y.0) (joined n x.1 y.1 _ _ is next)))
  statement_numbers (when_else q t s) n =
      bound patterns_in statement_patterns n n (fit_predicate q n) _ (predicate_numbers q n)
      (λ x is. bound statement_patterns statement_patterns x.1 n (fit_target t x.1) _ (target_numbers t x.1)
      (λ y next. bound statement_patterns statement_patterns y.1 n (fit_statement s y.1) _ (statement_numbers s y.1)
      (λ z last. same_tests n z.1 _ _ (patterns_in_else x.0 y.0 z.0) (joined n x.1 z.1 _ _ is (joined x.1 y.1 z.1 _ _ next last)))))

  list_numbers : (raw : RawList) (n : Counts) → Fits tree_patterns n (fit_list raw n)
  list_numbers none n = nothing n n refl
  list_numbers (more s raw) n =
      bound statement_patterns tree_patterns n n (fit_statement s n) _ (statement_numbers s n)
      (λ x is. bound tree_patterns tree_patterns x.1 n (fit_list raw x.1) _ (list_numbers raw x.1)
      (λ y next. joined n x.1 y.1 _ _ is next))

-- A TREE THAT FITS

fit_numbers : (raw : RawList) (tree : List Statement) (n : Counts) → fit raw ≡ Ok (tree, n) → Numbers no_counts n (tree_patterns tree)
fit_numbers raw tree n is = subst (λ (r : Fitted (List Statement)). Fits tree_patterns no_counts r) is (list_numbers raw no_counts)

-- its tests are numbered 0, 1, .. in their order
pub are_numbered : (raw : RawList) (tree : List Statement) (n : Counts) → fit raw ≡ Ok (tree, n) → IsNumbered tree
are_numbered raw tree n is = (fit_numbers raw tree n is).numbered

-- and each has a place
pub have_places : (raw : RawList) (tree : List Statement) (n : Counts) → fit raw ≡ Ok (tree, n) → length n.patterns ≡ length (tree_patterns tree)
have_places raw tree n is = (fit_numbers raw tree n is).places ∙ (let e : 0 + length (tree_patterns tree) ≡ length (tree_patterns tree) = omega arith in e)
