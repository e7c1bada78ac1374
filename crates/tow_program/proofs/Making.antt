-- Instructions, construct by construct.
use Rattle.std.proofs.Common.{◌≡◌, ℕ, List, [], ◌∷◌, ◌++◌, map, Option, Some, None, option_map, sym, ap, ◌∙◌, append_assoc, append-nil}
use Rattle.tow_model.specs.declared.action.Action.{Action}
use Rattle.tow_model.specs.declared.predicate.Test.{Test}
use Rattle.tow_model.specs.declared.predicate.Predicate.{Predicate, fold-roll-Predicate}
use Rattle.tow_model.specs.declared.predicate.Predicate.TheVariants as p
use Rattle.tow_model.specs.declared.predicate.Predicate.TheOpen as pf
use Rattle.tow_model.specs.declared.statement.Statement.{Statement, fold-roll-Statement}
use Rattle.tow_model.specs.declared.statement.Statement.TheVariants as st
use Rattle.tow_model.specs.declared.statement.Statement.TheOpen as sf
use Rattle.tow_program.specs.declared.instruction.Instruction.{Instruction}
use Rattle.tow_program.specs.declared.instruction.Instruction.TheVariants.{Ask, Do}
use Rattle.tow_program.specs.Programs.{Asking, asking_by, asking, both, either, conditional, joined, instructions_by, instructions_of}

pub asking_is : (t : Test) (holds fails : ℕ) → asking (p.Is t) holds fails ≡ Ask t holds fails ∷ []
asking_is t holds fails =
    ap (λ (a : Asking). a holds fails) (ap asking (sym (p.rolls-Is t)) ∙ fold-roll-Predicate Asking asking_by (pf.Is t))

pub asking_not : (a : Predicate) (holds fails : ℕ) → asking (p.Not a) holds fails ≡ asking a fails holds
asking_not a holds fails =
    ap (λ (a : Asking). a holds fails) (ap asking (sym (p.rolls-Not a)) ∙ fold-roll-Predicate Asking asking_by (pf.Not a))

pub asking_and : (a b : Predicate) (holds fails : ℕ) → asking (p.And a b) holds fails ≡ both (asking a) (asking b holds fails) fails
asking_and a b holds fails =
    ap (λ (a : Asking). a holds fails) (ap asking (sym (p.rolls-And a b)) ∙ fold-roll-Predicate Asking asking_by (pf.And a b))

pub asking_or : (a b : Predicate) (holds fails : ℕ) → asking (p.Or a b) holds fails ≡ either (asking a) (asking b holds fails) holds
asking_or a b holds fails =
    ap (λ (a : Asking). a holds fails) (ap asking (sym (p.rolls-Or a b)) ∙ fold-roll-Predicate Asking asking_by (pf.Or a b))

pub instructions_act : (a : Action) → instructions_of (st.Act a) ≡ Do a ∷ []
instructions_act a =
    ap instructions_of (sym (st.rolls-Act a)) ∙ fold-roll-Statement (List Instruction) instructions_by (sf.Act a)

pub instructions_when : (t : Predicate) (a : Statement) (b : Option Statement) →
    instructions_of (st.When t a b) ≡ conditional t (instructions_of a) (option_map instructions_of b)
instructions_when t a None =
    ap instructions_of (sym (st.rolls-When t a None)) ∙ fold-roll-Statement (List Instruction) instructions_by (sf.When t a None)
instructions_when t a (Some b) =
    ap instructions_of (sym (st.rolls-When t a (Some b))) ∙ fold-roll-Statement (List Instruction) instructions_by (sf.When t a (Some b))

pub instructions_block : (parts : List Statement) → instructions_of (st.Block parts) ≡ joined (map instructions_of parts)
instructions_block parts =
    ap instructions_of (sym (st.rolls-Block parts)) ∙ fold-roll-Statement (List Instruction) instructions_by (sf.Block parts)

-- the last statement's instructions stand before all that is there
pub joined_last : (parts : List Statement) (last : Statement) (rest : List Instruction) →
    joined (map instructions_of (parts ++ last ∷ [])) ++ rest ≡ joined (map instructions_of parts) ++ (instructions_of last ++ rest)
joined_last [] last rest = ap (λ c. c ++ rest) (append-nil (instructions_of last))
joined_last (t ∷ parts) last rest =
    append_assoc (instructions_of t) (joined (map instructions_of (parts ++ last ∷ []))) rest
    ∙ ap (λ c. instructions_of t ++ c) (joined_last parts last rest)
    ∙ sym (append_assoc (instructions_of t) (joined (map instructions_of parts)) (instructions_of last ++ rest))
