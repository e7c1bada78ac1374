-- The printed form of a predicate and of a statement, a layer at a time.
use Rattle.std.specs.Prelude.{◌≡◌, ℕ, ◌++◌, List, [], map, codes, nat_lt, Some, None}
use Rattle.std.proofs.Common.{ap}
use Rattle.tow_model.specs.declared.predicate.Test.{Test}
use Rattle.tow_model.specs.declared.action.Action.{Action}
use Rattle.tow_model.specs.declared.predicate.Predicate.{Predicate, fold-Predicate, fold-roll-Predicate, roll-Predicate}
use Rattle.tow_model.specs.declared.predicate.Predicate.TheVariants as predicates
use Rattle.tow_model.specs.declared.predicate.Predicate.TheOpen.{Is, Not, And, Or}
use Rattle.tow_model.specs.declared.statement.Statement.{Statement, fold-roll-Statement, roll-Statement}
use Rattle.tow_model.specs.declared.statement.Statement.TheVariants as statements
use Rattle.tow_model.specs.declared.statement.Statement.TheOpen.{When, Act, Block}
use denote.Hole.Carrier.{roll}
use Rattle.tow_language.specs.Printed.{printed_test, printed_action, printed_statement, predicate_by, statement_by, in_parentheses, printed_block}

abbrev pub printed_at : Predicate → ℕ → List ℕ
printed_at p place = fold-Predicate (ℕ → List ℕ) predicate_by p place

pub at_is : (t : Test) (k : ℕ) → printed_at (predicates.Is t) k ≡ printed_test t
unfolding roll-Predicate roll
at_is t k = ap (λ (f : ℕ → List ℕ). f k) (fold-roll-Predicate (ℕ → List ℕ) predicate_by (Is t))

pub at_not : (p : Predicate) (k : ℕ) → printed_at (predicates.Not p) k ≡ codes "not " ++ printed_at p 2
unfolding roll-Predicate roll
at_not p k = ap (λ (f : ℕ → List ℕ). f k) (fold-roll-Predicate (ℕ → List ℕ) predicate_by (Not p))

pub at_and : (p q : Predicate) (k : ℕ) → printed_at (predicates.And p q) k ≡ in_parentheses (nat_lt 1 k) (printed_at p 1 ++ (codes " and " ++ printed_at q 2))
unfolding roll-Predicate roll
at_and p q k = ap (λ (f : ℕ → List ℕ). f k) (fold-roll-Predicate (ℕ → List ℕ) predicate_by (And p q))

pub at_or : (p q : Predicate) (k : ℕ) → printed_at (predicates.Or p q) k ≡ in_parentheses (nat_lt 0 k) (printed_at p 0 ++ (codes " or " ++ printed_at q 1))
unfolding roll-Predicate roll
at_or p q k = ap (λ (f : ℕ → List ℕ). f k) (fold-roll-Predicate (ℕ → List ℕ) predicate_by (Or p q))

pub of_act : (a : Action) → printed_statement (statements.Act a) ≡ printed_action a
unfolding roll-Statement roll
of_act a = fold-roll-Statement (List ℕ) statement_by (Act a)

pub of_block : (ss : List Statement) → printed_statement (statements.Block ss) ≡ printed_block (map printed_statement ss)
unfolding roll-Statement roll
of_block ss = fold-roll-Statement (List ℕ) statement_by (Block ss)

pub of_when : (p : Predicate) (t : Statement) → printed_statement (statements.When p t None) ≡ printed_at p 0 ++ (codes " -> " ++ (printed_statement t ++ []))
unfolding roll-Statement roll
of_when p t = fold-roll-Statement (List ℕ) statement_by (When p t None)

pub of_else : (p : Predicate) (t s : Statement) →
    printed_statement (statements.When p t (Some s)) ≡ printed_at p 0 ++ (codes " -> " ++ (printed_statement t ++ (codes " else " ++ printed_statement s)))
unfolding roll-Statement roll
of_else p t s = fold-roll-Statement (List ℕ) statement_by (When p t (Some s))
