-- The program of a text asks the tests of the text, in its order.
use Rattle.std.proofs.Common.{◌≡◌, ℕ, suc, ◌+◌, List, [], ◌∷◌, ◌++◌, map, length, Some, None, refl, sym, ap, ap₂, ◌∙◌, append-nil}
use Rattle.std.proofs.lemmas.Grind.{flat_map-append}
use Rattle.tow_model.specs.Texts.{Text}
use Rattle.tow_model.specs.declared.predicate.Predicate.{Predicate, fold-roll-Predicate, roll-Predicate, map-Predicate, ind-Predicate}
use Rattle.tow_model.specs.declared.predicate.Predicate.TheOpen.{Predicate-F, Is, Not, And, Or}
use Rattle.tow_model.specs.declared.statement.Statement.{Statement, fold-roll-Statement, map-Statement, ind-Statement}
use Rattle.tow_model.specs.declared.statement.Statement.TheOpen.{Statement-F, When, Act, Block}
use Rattle.tow_semantics.specs.Listeners.{joined_lists}
use Rattle.tow_semantics.specs.Predicates.{pattern_of, patterns_by, patterns_in}
use Rattle.tow_pred.specs.Numbering.{statement_patterns_by, statement_patterns}
use Rattle.tow_program.specs.declared.instruction.Instruction.{Instruction}
use Rattle.tow_program.specs.declared.instruction.Instruction.TheVariants.{Skip}
use Rattle.tow_program.specs.Programs.{Asking, asking_by, asking, joined, instructions_by, instructions_of, program_of}
use Rattle.tow_advance.specs.Knowing.{instruction_patterns, program_patterns, ProgramAsksTree}

-- wherever it goes on, it asks these
abbrev Asks : Asking → List (ℕ × Text) → Type 0
Asks a ps = (holds fails : ℕ) → program_patterns (a holds fails) ≡ ps

joins : (xs ys : List Instruction) → program_patterns (xs ++ ys) ≡ program_patterns xs ++ program_patterns ys
joins xs ys = flat_map-append instruction_patterns xs ys

abbrev GoodTest : Type 0
GoodTest = (p : Predicate) × Asks (asking p) (patterns_in p)

predicate_layer : (y : Predicate-F GoodTest) →
    Asks (asking_by (map-Predicate Predicate Asking asking (map-Predicate GoodTest Predicate (λ k. k.0) y)))
    (patterns_by (map-Predicate Predicate (List (ℕ × Text)) patterns_in (map-Predicate GoodTest Predicate (λ k. k.0) y)))
predicate_layer (Is test) holds fails = append-nil (pattern_of test)
predicate_layer (Not p) holds fails = p.1 fails holds
predicate_layer (And a b) holds fails =
    joins (asking a.0 0 (length (asking b.0 holds fails) + fails)) (asking b.0 holds fails)
    ∙ ap₂ (λ xs ys. xs ++ ys) (a.1 0 (length (asking b.0 holds fails) + fails)) (b.1 holds fails)
predicate_layer (Or a b) holds fails =
    joins (asking a.0 (length (asking b.0 holds fails) + holds) 0) (asking b.0 holds fails)
    ∙ ap₂ (λ xs ys. xs ++ ys) (a.1 (length (asking b.0 holds fails) + holds) 0) (b.1 holds fails)

same_tests : (a b : Asking) (ps rs : List (ℕ × Text)) → a ≡ b → ps ≡ rs → Asks b rs → Asks a ps
same_tests a b ps rs e k asks holds fails = ap (λ (c : Asking). program_patterns (c holds fails)) e ∙ asks holds fails ∙ sym k

predicate_asks : (p : Predicate) → Asks (asking p) (patterns_in p)
predicate_asks = ind-Predicate (λ p. Asks (asking p) (patterns_in p)) (λ x y is.
    same_tests (asking (roll-Predicate x)) _ (patterns_in (roll-Predicate x)) _
    (fold-roll-Predicate Asking asking_by x ∙ ap (λ l. asking_by (map-Predicate Predicate Asking asking l)) (sym is))
    (fold-roll-Predicate (List (ℕ × Text)) patterns_by x ∙ ap (λ l. patterns_by (map-Predicate Predicate (List (ℕ × Text)) patterns_in l)) (sym is))
    (predicate_layer y))

abbrev Good : Type 0
Good = (t : Statement) × (program_patterns (instructions_of t) ≡ statement_patterns t)

all_ask : (parts : List Good) →
    program_patterns (joined (map instructions_of (map (λ k. k.0) parts))) ≡ joined_lists (map statement_patterns (map (λ k. k.0) parts))
all_ask [] = refl
all_ask (k ∷ parts) =
    joins (instructions_of k.0) (joined (map instructions_of (map (λ j. j.0) parts)))
    ∙ ap₂ (λ xs ys. xs ++ ys) k.1 (all_ask parts)

layer : (y : Statement-F Good) →
    program_patterns (instructions_by (map-Statement Statement (List Instruction) instructions_of (map-Statement Good Statement (λ k. k.0) y)))
    ≡ statement_patterns_by (map-Statement Statement (List (ℕ × Text)) statement_patterns (map-Statement Good Statement (λ k. k.0) y))
layer (When t a None) =
    joins (asking t 0 (length (instructions_of a.0))) (instructions_of a.0)
    ∙ ap₂ (λ xs ys. xs ++ ys) (predicate_asks t 0 (length (instructions_of a.0))) (a.1 ∙ sym (append-nil (statement_patterns a.0)))
layer (When t a (Some b)) =
    let behind : List Instruction = Skip (length (instructions_of b.0)) ∷ instructions_of b.0 in
    joins (asking t 0 (suc (length (instructions_of a.0)))) (instructions_of a.0 ++ behind)
    ∙ ap₂ (λ xs ys. xs ++ ys) (predicate_asks t 0 (suc (length (instructions_of a.0))))
    (joins (instructions_of a.0) behind ∙ ap₂ (λ xs ys. xs ++ ys) a.1 b.1)
layer (Act a) = refl
layer (Block parts) = all_ask parts

statement_asks : (t : Statement) → program_patterns (instructions_of t) ≡ statement_patterns t
statement_asks = ind-Statement (λ t. program_patterns (instructions_of t) ≡ statement_patterns t) (λ x y is.
    ap program_patterns (fold-roll-Statement (List Instruction) instructions_by x
    ∙ ap (λ l. instructions_by (map-Statement Statement (List Instruction) instructions_of l)) (sym is))
    ∙ layer y
    ∙ sym (fold-roll-Statement (List (ℕ × Text)) statement_patterns_by x
    ∙ ap (λ l. statement_patterns_by (map-Statement Statement (List (ℕ × Text)) statement_patterns l)) (sym is)))

pub program_asks_tree : ProgramAsksTree
program_asks_tree [] = refl
program_asks_tree (t ∷ tree) =
    joins (instructions_of t) (program_of tree) ∙ ap₂ (λ xs ys. xs ++ ys) (statement_asks t) (program_asks_tree tree)
