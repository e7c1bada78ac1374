-- The printed form of a tree is UTF-8 where that of each of its calls is.
use Rattle.std.specs.Prelude.{◌≡◌, ℕ, Bool, true, false, nat_lt, List, [], ◌∷◌, ◌++◌, map, codes, None, Some, Ok, IsUtf8}
use Rattle.std.proofs.Common.{refl, sym, ap, arith, subst}
use Rattle.std.proofs.lemmas.Str.{IsUtf8-nil, IsUtf8-append}
use Rattle.tow_model.specs.declared.action.Action.{Action}
use Rattle.tow_model.specs.declared.action.Action.TheVariants as actions
use Rattle.tow_model.specs.declared.predicate.Test.{Test}
use Rattle.tow_model.specs.declared.predicate.Predicate.{Predicate}
use Rattle.tow_model.specs.declared.predicate.Predicate.TheVariants.{Is, Not, And, Or}
use Rattle.tow_model.specs.declared.statement.Statement.{Statement}
use Rattle.tow_model.specs.declared.statement.Statement.TheVariants.{When, Act, Block}
use Rattle.tow_language.specs.Raw.{RawCall, RawPredicate, alone, or_more, RawConjunction, single, and_more, RawFactor, test, negated, grouped, RawTarget, handler, restart, done, block, RawStatement, act, when, when_else, RawList, none, more}
use Rattle.tow_language.specs.Fit.{Counts, Fitted, ◌>>=◌, fit_test, fit_action, fit_predicate, fit_or, fit_conjunction, fit_and, fit_factor, fit_target, fit_statement, fit_list}
use Rattle.tow_language.specs.Printed.{joined_by, in_parentheses, printed_test, printed_action, printed_block, printed_statement, print_of}
use Rattle.tow_language.proofs.Folds.{printed_at, at_is, at_not, at_and, at_or, of_act, of_block, of_when, of_else}
use Rattle.tow_print.proofs.Predicates.{OfPredicate, OfConjunction, OfFactor, bind_ok, ok_pair}
use Rattle.tow_print.proofs.Statements.{OfTarget, OfStatement, OfList}
use Rattle.tow_print.proofs.Textual.{OfEach}
use Rattle.tow_print.proofs.Utf8.{utf8_cons, utf8_ascii}
use Rattle.tow_print.proofs.Utf8Forms.{utf8_joined}

-- each test that such a call fits is printed in UTF-8
abbrev pub TestsInUtf8 : (RawCall → Type 0) → Type 0
TestsInUtf8 Fine = (c : RawCall) (n i : Counts) (t : Test) → Fine c → fit_test c n ≡ Ok (t, i) → IsUtf8 (printed_test t)

-- each action that such a call fits is printed in UTF-8
abbrev pub ActionsInUtf8 : (RawCall → Type 0) → Type 0
ActionsInUtf8 Fine = (c : RawCall) (n i : Counts) (a : Action) → Fine c → fit_action c n ≡ Ok (a, i) → IsUtf8 (printed_action a)

-- what a fit gives
fit_is : {A : Type 0} (x y : A × Counts) → ◌≡◌ {A = Fitted A} (Ok x) (Ok y) → x.0 ≡ y.0
fit_is {A = A} x y e = ap (λ (z : A × Counts). z.0) (ok_pair x y e)

-- a predicate at each place
abbrev AtEach : Predicate → Type 0
AtEach p = (place : ℕ) → IsUtf8 (printed_at p place)

in_parentheses_utf8 : (t : Bool) (text : List ℕ) → IsUtf8 text → IsUtf8 (in_parentheses t text)
in_parentheses_utf8 true text u = utf8_cons 40 (text ++ codes ")") (omega arith) (IsUtf8-append text (codes ")") u (utf8_ascii (codes ")") refl))
in_parentheses_utf8 false text u = u

test_utf8 : (t : Test) → IsUtf8 (printed_test t) → AtEach (Is t)
test_utf8 t u place = subst IsUtf8 (sym (at_is t place)) u

not_utf8 : (p : Predicate) → AtEach p → AtEach (Not p)
not_utf8 p u place = subst IsUtf8 (sym (at_not p place)) (IsUtf8-append (codes "not ") (printed_at p 2) (utf8_ascii (codes "not ") refl) (u 2))

and_utf8 : (a b : Predicate) → AtEach a → AtEach b → AtEach (And a b)
and_utf8 a b u v place =
    subst IsUtf8 (sym (at_and a b place))
    (in_parentheses_utf8 (nat_lt 1 place) (printed_at a 1 ++ (codes " and " ++ printed_at b 2))
    (IsUtf8-append (printed_at a 1) (codes " and " ++ printed_at b 2) (u 1) (IsUtf8-append (codes " and ") (printed_at b 2) (utf8_ascii (codes " and ") refl) (v 2))))

or_utf8 : (a b : Predicate) → AtEach a → AtEach b → AtEach (Or a b)
or_utf8 a b u v place =
    subst IsUtf8 (sym (at_or a b place))
    (in_parentheses_utf8 (nat_lt 0 place) (printed_at a 0 ++ (codes " or " ++ printed_at b 1))
    (IsUtf8-append (printed_at a 0) (codes " or " ++ printed_at b 1) (u 0) (IsUtf8-append (codes " or ") (printed_at b 1) (utf8_ascii (codes " or ") refl) (v 1))))

-- a statement
abbrev IsPrinted : Statement → Type 0
IsPrinted s = IsUtf8 (printed_statement s)

act_utf8 : (a : Action) → IsUtf8 (printed_action a) → IsPrinted (Act a)
act_utf8 a u = subst IsUtf8 (sym (of_act a)) u

block_utf8 : (ss : List Statement) → OfEach IsPrinted ss → IsPrinted (Block ss)
block_utf8 ss are = subst IsUtf8 (sym (of_block ss)) (in_braces ss are)
  where
    printed_each : (ss : List Statement) → OfEach IsPrinted ss → OfEach IsUtf8 (map printed_statement ss)
    printed_each [] are = tt
    printed_each (s ∷ ss) are = (are.0, printed_each ss are.1)

    in_braces : (ss : List Statement) → OfEach IsPrinted ss → IsUtf8 (printed_block (map printed_statement ss))
    in_braces [] are = utf8_ascii (codes "{ }") refl
    in_braces (s ∷ ss) are =
        let J = joined_by (codes "; ") (map printed_statement (s ∷ ss)) in
        IsUtf8-append (codes "{ ") (J ++ codes " }") (utf8_ascii (codes "{ ") refl)
        (IsUtf8-append J (codes " }") (utf8_joined (codes "; ") (map printed_statement (s ∷ ss)) (utf8_ascii (codes "; ") refl) (printed_each (s ∷ ss) are)) (utf8_ascii (codes " }") refl))

when_utf8 : (p : Predicate) (t : Statement) → AtEach p → IsPrinted t → IsPrinted (When p t None)
when_utf8 p t u v =
    subst IsUtf8 (sym (of_when p t))
    (IsUtf8-append (printed_at p 0) (codes " -> " ++ (printed_statement t ++ [])) (u 0)
    (IsUtf8-append (codes " -> ") (printed_statement t ++ []) (utf8_ascii (codes " -> ") refl) (IsUtf8-append (printed_statement t) [] v IsUtf8-nil)))

else_utf8 : (p : Predicate) (t s : Statement) → AtEach p → IsPrinted t → IsPrinted s → IsPrinted (When p t (Some s))
else_utf8 p t s u v w =
    let E = codes " else " ++ printed_statement s in
    subst IsUtf8 (sym (of_else p t s))
    (IsUtf8-append (printed_at p 0) (codes " -> " ++ (printed_statement t ++ E)) (u 0)
    (IsUtf8-append (codes " -> ") (printed_statement t ++ E) (utf8_ascii (codes " -> ") refl)
    (IsUtf8-append (printed_statement t) E v (IsUtf8-append (codes " else ") (printed_statement s) (utf8_ascii (codes " else ") refl) w))))

tree_utf8 : (tree : List Statement) → OfEach IsPrinted tree → IsUtf8 (print_of tree)
tree_utf8 [] are = IsUtf8-nil
tree_utf8 (s ∷ tree) are =
    IsUtf8-append (printed_statement s ++ 10 ∷ []) (print_of tree) (IsUtf8-append (printed_statement s) (10 ∷ []) are.0 (utf8_ascii (10 ∷ []) refl)) (tree_utf8 tree are.1)

module _ (Fine : RawCall → Type 0) (tests : TestsInUtf8 Fine) (handlers : ActionsInUtf8 Fine) where
  mutual
    of_factor : (f : RawFactor) (n i : Counts) (p : Predicate) → OfFactor Fine f → fit_factor f n ≡ Ok (p, i) → AtEach p
    of_factor (test c) n i p fine e =
        let x = bind_ok (fit_test c n) (λ x. Ok (Is x.0, x.1)) (p, i) e in
        subst AtEach (fit_is (Is x.0.0, x.0.1) (p, i) x.2) (test_utf8 x.0.0 (tests c n x.0.1 x.0.0 fine x.1))
    of_factor (negated f) n i p fine e =
        let x = bind_ok (fit_factor f n) (λ x. Ok (Not x.0, x.1)) (p, i) e in
        subst AtEach (fit_is (Not x.0.0, x.0.1) (p, i) x.2) (not_utf8 x.0.0 (of_factor f n x.0.1 x.0.0 fine x.1))
    of_factor (grouped q) n i p fine e = of_predicate q n i p fine e

    of_conjunction : (c : RawConjunction) (n i : Counts) (p : Predicate) → OfConjunction Fine c → fit_conjunction c n ≡ Ok (p, i) → AtEach p
    of_conjunction (single f) n i p fine e = of_factor f n i p fine e
    of_conjunction (and_more f c) n i p fine e =
        let x = bind_ok (fit_factor f n) (λ x. fit_and c x.0 x.1) (p, i) e in
        of_and c x.0.1 i x.0.0 p fine.1 (of_factor f n x.0.1 x.0.0 fine.0 x.1) x.2

    of_and : (c : RawConjunction) (n i : Counts) (left p : Predicate) → OfConjunction Fine c → AtEach left → fit_and c left n ≡ Ok (p, i) → AtEach p
    of_and (single f) n i left p fine u e =
        let x = bind_ok (fit_factor f n) (λ x. Ok (And left x.0, x.1)) (p, i) e in
        subst AtEach (fit_is (And left x.0.0, x.0.1) (p, i) x.2) (and_utf8 left x.0.0 u (of_factor f n x.0.1 x.0.0 fine x.1))
    of_and (and_more f c) n i left p fine u e =
        let x = bind_ok (fit_factor f n) (λ x. fit_and c (And left x.0) x.1) (p, i) e in
        of_and c x.0.1 i (And left x.0.0) p fine.1 (and_utf8 left x.0.0 u (of_factor f n x.0.1 x.0.0 fine.0 x.1)) x.2

    of_predicate : (q : RawPredicate) (n i : Counts) (p : Predicate) → OfPredicate Fine q → fit_predicate q n ≡ Ok (p, i) → AtEach p
    of_predicate (alone c) n i p fine e = of_conjunction c n i p fine e
    of_predicate (or_more c q) n i p fine e =
        let x = bind_ok (fit_conjunction c n) (λ x. fit_or q x.0 x.1) (p, i) e in
        of_or q x.0.1 i x.0.0 p fine.1 (of_conjunction c n x.0.1 x.0.0 fine.0 x.1) x.2

    of_or : (q : RawPredicate) (n i : Counts) (left p : Predicate) → OfPredicate Fine q → AtEach left → fit_or q left n ≡ Ok (p, i) → AtEach p
    of_or (alone c) n i left p fine u e =
        let x = bind_ok (fit_conjunction c n) (λ x. Ok (Or left x.0, x.1)) (p, i) e in
        subst AtEach (fit_is (Or left x.0.0, x.0.1) (p, i) x.2) (or_utf8 left x.0.0 u (of_conjunction c n x.0.1 x.0.0 fine x.1))
    of_or (or_more c q) n i left p fine u e =
        let x = bind_ok (fit_conjunction c n) (λ x. fit_or q (Or left x.0) x.1) (p, i) e in
        of_or q x.0.1 i (Or left x.0.0) p fine.1 (or_utf8 left x.0.0 u (of_conjunction c n x.0.1 x.0.0 fine.0 x.1)) x.2

  mutual
    of_target : (t : RawTarget) (n i : Counts) (s : Statement) → OfTarget Fine t → fit_target t n ≡ Ok (s, i) → IsPrinted s
    of_target (handler c) n i s fine e =
        let x = bind_ok (fit_action c n) (λ x. Ok (Act x.0, x.1)) (s, i) e in
        subst IsPrinted (fit_is (Act x.0.0, x.0.1) (s, i) x.2) (act_utf8 x.0.0 (handlers c n x.0.1 x.0.0 fine x.1))
    of_target restart n i s fine e = subst IsPrinted (fit_is (Act actions.Restart, n) (s, i) e) (act_utf8 actions.Restart (utf8_ascii (codes "restart") refl))
    of_target done n i s fine e = subst IsPrinted (fit_is (Act actions.Done, n) (s, i) e) (act_utf8 actions.Done (utf8_ascii (codes "done") refl))
    of_target (block raw) n i s fine e =
        let x = bind_ok (fit_list raw n) (λ x. Ok (Block x.0, x.1)) (s, i) e in
        subst IsPrinted (fit_is (Block x.0.0, x.0.1) (s, i) x.2) (block_utf8 x.0.0 (of_list raw n x.0.1 x.0.0 fine x.1))

    of_statement : (r : RawStatement) (n i : Counts) (s : Statement) → OfStatement Fine r → fit_statement r n ≡ Ok (s, i) → IsPrinted s
    of_statement (act t) n i s fine e = of_target t n i s fine e
    of_statement (when p t) n i s fine e =
        let x = bind_ok (fit_predicate p n) (λ x. fit_target t x.1 >>= λ y. Ok (When x.0 y.0 None, y.1)) (s, i) e in
        let y = bind_ok (fit_target t x.0.1) (λ y. Ok (When x.0.0 y.0 None, y.1)) (s, i) x.2 in
        subst IsPrinted (fit_is (When x.0.0 y.0.0 None, y.0.1) (s, i) y.2)
        (when_utf8 x.0.0 y.0.0 (of_predicate p n x.0.1 x.0.0 fine.0 x.1) (of_target t x.0.1 y.0.1 y.0.0 fine.1 y.1))
    of_statement (when_else p t r) n i s fine e =
        let x = bind_ok (fit_predicate p n) (λ x. fit_target t x.1 >>= λ y. fit_statement r y.1 >>= λ z. Ok (When x.0 y.0 (Some z.0), z.1)) (s, i) e in
        let y = bind_ok (fit_target t x.0.1) (λ y. fit_statement r y.1 >>= λ z. Ok (When x.0.0 y.0 (Some z.0), z.1)) (s, i) x.2 in
        let z = bind_ok (fit_statement r y.0.1) (λ z. Ok (When x.0.0 y.0.0 (Some z.0), z.1)) (s, i) y.2 in
        subst IsPrinted (fit_is (When x.0.0 y.0.0 (Some z.0.0), z.0.1) (s, i) z.2)
        (else_utf8 x.0.0 y.0.0 z.0.0 (of_predicate p n x.0.1 x.0.0 fine.0 x.1) (of_target t x.0.1 y.0.1 y.0.0 fine.1 y.1) (of_statement r y.0.1 z.0.1 z.0.0 fine.2 z.1))

    of_list : (raw : RawList) (n i : Counts) (ss : List Statement) → OfList Fine raw → fit_list raw n ≡ Ok (ss, i) → OfEach IsPrinted ss
    of_list none n i ss fine e = subst (OfEach IsPrinted) (fit_is ([], n) (ss, i) e) tt
    of_list (more r raw) n i ss fine e =
        let x = bind_ok (fit_statement r n) (λ x. fit_list raw x.1 >>= λ y. Ok (x.0 ∷ y.0, y.1)) (ss, i) e in
        let y = bind_ok (fit_list raw x.0.1) (λ y. Ok (x.0.0 ∷ y.0, y.1)) (ss, i) x.2 in
        subst (OfEach IsPrinted) (fit_is (x.0.0 ∷ y.0.0, y.0.1) (ss, i) y.2) (of_statement r n x.0.1 x.0.0 fine.0 x.1, of_list raw x.0.1 y.0.1 y.0.0 fine.1 y.1)

  -- the statements of such calls are printed in UTF-8
  pub statements_are_text : (raw : RawList) (n i : Counts) (tree : List Statement) → OfList Fine raw → fit_list raw n ≡ Ok (tree, i) → IsUtf8 (print_of tree)
  statements_are_text raw n i tree fine e = tree_utf8 tree (of_list raw n i tree fine e)
