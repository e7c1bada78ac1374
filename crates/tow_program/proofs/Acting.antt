-- The program of a text has the actions of the text, in its order, and so its logs and its limits.
use Rattle.std.proofs.Common.{◌≡◌, ℕ, suc, ◌+◌, List, [], ◌∷◌, ◌++◌, map, length, filter_map, Option, Some, None, refl, sym, ap, ap₂, ◌∙◌, append-nil}
use Rattle.std.proofs.lemmas.List.Elements.{filter_map-append}
use Rattle.std.specs.List.{cons_option}
use Rattle.tow_model.specs.declared.action.Action.{Action}
use Rattle.tow_model.specs.declared.account.Bound.{Bound}
use Rattle.tow_model.specs.declared.attribute.Piece.{Piece}
use Rattle.tow_model.specs.declared.predicate.Predicate.{Predicate, fold-roll-Predicate, roll-Predicate, map-Predicate, ind-Predicate}
use Rattle.tow_model.specs.declared.predicate.Predicate.TheOpen.{Predicate-F, Is, Not, And, Or}
use Rattle.tow_model.specs.declared.statement.Statement.{Statement, fold-Statement, fold-roll-Statement, map-Statement, ind-Statement}
use Rattle.tow_model.specs.declared.statement.Statement.TheOpen.{Statement-F, When, Act, Block}
use Rattle.tow_semantics.specs.Listeners.{joined_lists, actions_by, actions_of, bound_of_action, format_of_action}
use Rattle.tow_program.specs.declared.instruction.Instruction.{Instruction}
use Rattle.tow_program.specs.declared.instruction.Instruction.TheVariants.{Ask, Do, Skip}
use Rattle.tow_program.specs.Actions.{action_in, actions_in, bound_in, bounds_in, format_in, formats_in, ActionsAreTree, FormatsAreTree, BoundsAreTree}
use Rattle.tow_program.specs.Programs.{Asking, asking_by, asking, joined, instructions_by, instructions_of, program_of}

joins : (xs ys : List Instruction) → actions_in (xs ++ ys) ≡ actions_in xs ++ actions_in ys
joins xs ys = filter_map-append action_in xs ys

-- the instructions of a predicate have no action
abbrev OnlyAsks : Asking → Type 0
OnlyAsks a = (holds fails : ℕ) → actions_in (a holds fails) ≡ []

abbrev GoodTest : Type 0
GoodTest = (p : Predicate) × OnlyAsks (asking p)

predicate_layer : (y : Predicate-F GoodTest) →
    OnlyAsks (asking_by (map-Predicate Predicate Asking asking (map-Predicate GoodTest Predicate (λ k. k.0) y)))
predicate_layer (Is test) holds fails = refl
predicate_layer (Not p) holds fails = p.1 fails holds
predicate_layer (And a b) holds fails =
    joins (asking a.0 0 (length (asking b.0 holds fails) + fails)) (asking b.0 holds fails)
    ∙ ap₂ (λ xs ys. xs ++ ys) (a.1 0 (length (asking b.0 holds fails) + fails)) (b.1 holds fails)
predicate_layer (Or a b) holds fails =
    joins (asking a.0 (length (asking b.0 holds fails) + holds) 0) (asking b.0 holds fails)
    ∙ ap₂ (λ xs ys. xs ++ ys) (a.1 (length (asking b.0 holds fails) + holds) 0) (b.1 holds fails)

same_asking : (a b : Asking) → a ≡ b → OnlyAsks b → OnlyAsks a
same_asking a b e only holds fails = ap (λ (c : Asking). actions_in (c holds fails)) e ∙ only holds fails

only_asks : (p : Predicate) → OnlyAsks (asking p)
only_asks = ind-Predicate (λ p. OnlyAsks (asking p)) (λ x y is.
    same_asking (asking (roll-Predicate x)) _
    (fold-roll-Predicate Asking asking_by x ∙ ap (λ l. asking_by (map-Predicate Predicate Asking asking l)) (sym is))
    (predicate_layer y))

abbrev acts : Statement → List Action
acts = fold-Statement (List Action) actions_by

abbrev Good : Type 0
Good = (t : Statement) × (actions_in (instructions_of t) ≡ acts t)

all_act : (parts : List Good) →
    actions_in (joined (map instructions_of (map (λ k. k.0) parts))) ≡ joined_lists (map acts (map (λ k. k.0) parts))
all_act [] = refl
all_act (k ∷ parts) =
    joins (instructions_of k.0) (joined (map instructions_of (map (λ j. j.0) parts)))
    ∙ ap₂ (λ xs ys. xs ++ ys) k.1 (all_act parts)

layer : (y : Statement-F Good) →
    actions_in (instructions_by (map-Statement Statement (List Instruction) instructions_of (map-Statement Good Statement (λ k. k.0) y)))
    ≡ actions_by (map-Statement Statement (List Action) acts (map-Statement Good Statement (λ k. k.0) y))
layer (When t a None) =
    joins (asking t 0 (length (instructions_of a.0))) (instructions_of a.0)
    ∙ ap₂ (λ xs ys. xs ++ ys) (only_asks t 0 (length (instructions_of a.0))) (a.1 ∙ sym (append-nil (acts a.0)))
layer (When t a (Some b)) =
    let behind : List Instruction = Skip (length (instructions_of b.0)) ∷ instructions_of b.0 in
    joins (asking t 0 (suc (length (instructions_of a.0)))) (instructions_of a.0 ++ behind)
    ∙ ap₂ (λ xs ys. xs ++ ys) (only_asks t 0 (suc (length (instructions_of a.0))))
    (joins (instructions_of a.0) behind ∙ ap₂ (λ xs ys. xs ++ ys) a.1 b.1)
layer (Act a) = refl
layer (Block parts) = all_act parts

statement_acts : (t : Statement) → actions_in (instructions_of t) ≡ acts t
statement_acts = ind-Statement (λ t. actions_in (instructions_of t) ≡ acts t) (λ x y is.
    ap actions_in (fold-roll-Statement (List Instruction) instructions_by x
    ∙ ap (λ l. instructions_by (map-Statement Statement (List Instruction) instructions_of l)) (sym is))
    ∙ layer y
    ∙ sym (fold-roll-Statement (List Action) actions_by x
    ∙ ap (λ l. actions_by (map-Statement Statement (List Action) acts l)) (sym is)))

pub actions_are_tree : ActionsAreTree
actions_are_tree [] = refl
actions_are_tree (t ∷ tree) =
    joins (instructions_of t) (program_of tree) ∙ ap₂ (λ xs ys. xs ++ ys) (statement_acts t) (actions_are_tree tree)

formats_of_actions : (program : List Instruction) → formats_in program ≡ filter_map format_of_action (actions_in program)
formats_of_actions [] = refl
formats_of_actions (Ask test holds fails ∷ rest) = formats_of_actions rest
formats_of_actions (Do action ∷ rest) = ap (λ fs. cons_option (format_of_action action) fs) (formats_of_actions rest)
formats_of_actions (Skip passed ∷ rest) = formats_of_actions rest

bounds_of_actions : (program : List Instruction) → bounds_in program ≡ filter_map bound_of_action (actions_in program)
bounds_of_actions [] = refl
bounds_of_actions (Ask test holds fails ∷ rest) = bounds_of_actions rest
bounds_of_actions (Do action ∷ rest) = ap (λ bs. cons_option (bound_of_action action) bs) (bounds_of_actions rest)
bounds_of_actions (Skip passed ∷ rest) = bounds_of_actions rest

pub formats_are_tree : FormatsAreTree
formats_are_tree tree = formats_of_actions (program_of tree) ∙ ap (λ acts. filter_map format_of_action acts) (actions_are_tree tree)

pub bounds_are_tree : BoundsAreTree
bounds_are_tree tree = bounds_of_actions (program_of tree) ∙ ap (λ acts. filter_map bound_of_action acts) (actions_are_tree tree)
