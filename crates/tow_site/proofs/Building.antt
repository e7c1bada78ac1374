-- Which parts of a built statement are built.
use Rattle.std.proofs.Common.{◌≡◌, Bool, true, false, ◌&&◌, IsTrue, List, ◌∷◌, Some, None, Option, refl, sym, ap, ◌∙◌}
use Rattle.std.specs.List.{list_all}
use Rattle.std.proofs.lemmas.List.Folds.{list_all-map}
use Rattle.tow_model.specs.declared.predicate.Predicate.{Predicate}
use Rattle.tow_model.specs.declared.statement.Statement.{Statement, fold-Statement, fold-roll-Statement}
use Rattle.tow_model.specs.declared.statement.Statement.TheVariants as st
use Rattle.tow_model.specs.declared.statement.Statement.TheOpen as sf
use Rattle.tow_site.specs.Built.{built_statement_by, is_built_statement}

and_left : (a b : Bool) → (a && b) ≡ true → a ≡ true
and_left true b is = refl
and_left false b is = is

and_right : (a b : Bool) → (a && b) ≡ true → b ≡ true
and_right true b is = is
and_right false b is = cc

when_is : (t : Predicate) (a : Statement) → is_built_statement (st.When t a None) ≡ (is_built_statement a && true)
when_is t a = ap (fold-Statement Bool built_statement_by) (sym (st.rolls-When t a None)) ∙ fold-roll-Statement Bool built_statement_by (sf.When t a None)

when_else_is : (t : Predicate) (a o : Statement) → is_built_statement (st.When t a (Some o)) ≡ (is_built_statement a && is_built_statement o)
when_else_is t a o = ap (fold-Statement Bool built_statement_by) (sym (st.rolls-When t a (Some o))) ∙ fold-roll-Statement Bool built_statement_by (sf.When t a (Some o))

pub built_then : (t : Predicate) (a : Statement) (other : Option Statement) →
    IsTrue (is_built_statement (st.When t a other)) → IsTrue (is_built_statement a)
built_then t a None is = and_left (is_built_statement a) true (sym (when_is t a) ∙ is)
built_then t a (Some o) is = and_left (is_built_statement a) (is_built_statement o) (sym (when_else_is t a o) ∙ is)

pub built_else : (t : Predicate) (a o : Statement) → IsTrue (is_built_statement (st.When t a (Some o))) → IsTrue (is_built_statement o)
built_else t a o is = and_right (is_built_statement a) (is_built_statement o) (sym (when_else_is t a o) ∙ is)

pub block_is : (ts : List Statement) → is_built_statement (st.Block ts) ≡ list_all is_built_statement ts
block_is ts =
    ap (fold-Statement Bool built_statement_by) (sym (st.rolls-Block ts)) ∙ fold-roll-Statement Bool built_statement_by (sf.Block ts)
    ∙ list_all-map (λ (b : Bool). b) is_built_statement ts

pub built_first : (t : Statement) (ts : List Statement) → IsTrue (list_all is_built_statement (t ∷ ts)) → IsTrue (is_built_statement t)
built_first t ts is = and_left (is_built_statement t) (list_all is_built_statement ts) is

pub built_rest : (t : Statement) (ts : List Statement) → IsTrue (list_all is_built_statement (t ∷ ts)) → IsTrue (list_all is_built_statement ts)
built_rest t ts is = and_right (is_built_statement t) (list_all is_built_statement ts) is
