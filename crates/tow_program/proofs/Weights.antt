-- How many constructs predicates and statements have: the measure by which the walks over them end.
use Rattle.std.proofs.Common.{◌≡◌, ℕ, suc, ◌+◌, List, [], ◌∷◌, ◌++◌, map, Option, Some, None, refl, sym, ap, ◌∙◌, add-zero, arith}
use Rattle.tow_model.specs.declared.predicate.Predicate.{Predicate, fold-Predicate, fold-roll-Predicate}
use Rattle.tow_model.specs.declared.predicate.Predicate.TheVariants as p
use Rattle.tow_model.specs.declared.predicate.Predicate.TheOpen as pf
use Rattle.tow_model.specs.declared.statement.Statement.{Statement, fold-Statement, fold-roll-Statement}
use Rattle.tow_model.specs.declared.statement.Statement.TheVariants as st
use Rattle.tow_model.specs.declared.statement.Statement.TheOpen as sf

pub weight_by : pf.Predicate-F ℕ → ℕ
weight_by (pf.Is t) = 1
weight_by (pf.Not a) = suc a
weight_by (pf.And a b) = suc (a + b)
weight_by (pf.Or a b) = suc (a + b)

pub weight : Predicate → ℕ
weight = fold-Predicate ℕ weight_by

pub weight_not : (a : Predicate) → weight (p.Not a) ≡ suc (weight a)
unfolding weight weight_by
weight_not a = ap weight (sym (p.rolls-Not a)) ∙ fold-roll-Predicate ℕ weight_by (pf.Not a)

pub weight_and : (a b : Predicate) → weight (p.And a b) ≡ suc (weight a + weight b)
unfolding weight weight_by
weight_and a b = ap weight (sym (p.rolls-And a b)) ∙ fold-roll-Predicate ℕ weight_by (pf.And a b)

pub weight_or : (a b : Predicate) → weight (p.Or a b) ≡ suc (weight a + weight b)
unfolding weight weight_by
weight_or a b = ap weight (sym (p.rolls-Or a b)) ∙ fold-roll-Predicate ℕ weight_by (pf.Or a b)

pub total : List ℕ → ℕ
total [] = 0
total (n ∷ ns) = n + total ns

pub statement_weight_by : sf.Statement-F ℕ → ℕ
statement_weight_by (sf.When t a None) = suc a
statement_weight_by (sf.When t a (Some b)) = suc (a + b)
statement_weight_by (sf.Act a) = 1
statement_weight_by (sf.Block parts) = suc (total parts)

pub statement_weight : Statement → ℕ
statement_weight = fold-Statement ℕ statement_weight_by

pub weights : List Statement → ℕ
weights statements = total (map statement_weight statements)

pub other_weight : Option Statement → ℕ
other_weight None = 0
other_weight (Some b) = statement_weight b

pub weight_other : (b : Statement) → other_weight (Some b) ≡ statement_weight b
unfolding other_weight
weight_other b = refl

pub weight_when : (t : Predicate) (a : Statement) (b : Option Statement) →
    statement_weight (st.When t a b) ≡ suc (statement_weight a + other_weight b)
unfolding statement_weight statement_weight_by other_weight
weight_when t a None =
    ap statement_weight (sym (st.rolls-When t a None)) ∙ fold-roll-Statement ℕ statement_weight_by (sf.When t a None) ∙ sym (ap suc (add-zero (statement_weight a)))
weight_when t a (Some b) =
    ap statement_weight (sym (st.rolls-When t a (Some b))) ∙ fold-roll-Statement ℕ statement_weight_by (sf.When t a (Some b))

pub weight_block : (parts : List Statement) → statement_weight (st.Block parts) ≡ suc (weights parts)
unfolding statement_weight statement_weight_by weights total
weight_block parts =
    ap statement_weight (sym (st.rolls-Block parts)) ∙ fold-roll-Statement ℕ statement_weight_by (sf.Block parts)

pub weights_last : (parts : List Statement) (last : Statement) → weights (parts ++ last ∷ []) ≡ weights parts + statement_weight last
unfolding weights total
weights_last [] last = omega arith
weights_last (t ∷ parts) last = let rest = weights_last parts last in omega (arith, rest)
