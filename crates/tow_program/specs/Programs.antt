-- The instructions of a text, whose jumps go forward only.
use Rattle.std.specs.Prelude.{ℕ, suc, ◌+◌, List, [], ◌∷◌, ◌++◌, map, length, Option, Some, None}
use Rattle.tow_model.specs.declared.predicate.Predicate.{Predicate, fold-Predicate}
use Rattle.tow_model.specs.declared.predicate.Predicate.TheOpen.{Predicate-F, Is, Not, And, Or}
use Rattle.tow_model.specs.declared.statement.Statement.{Statement, fold-Statement}
use Rattle.tow_model.specs.declared.statement.Statement.TheOpen.{Statement-F, When, Act, Block}
use Rattle.tow_program.specs.declared.instruction.Instruction.{Instruction}
use Rattle.tow_program.specs.declared.instruction.Instruction.TheVariants.{Ask, Do, Skip}

-- PREDICATES

-- the instructions of a predicate behind which so many are passed over where it holds, and so many where it fails
abbrev pub Asking : Type 0
Asking = ℕ → ℕ → List Instruction

-- the first tests, and the second ones where the first hold
abbrev pub both : Asking → List Instruction → ℕ → List Instruction
both first second fails = first 0 (length second + fails) ++ second

-- the first tests, and the second ones where the first fail
abbrev pub either : Asking → List Instruction → ℕ → List Instruction
either first second holds = first (length second + holds) 0 ++ second

abbrev pub asking_by : Predicate-F Asking → Asking
asking_by (Is test) holds fails = Ask test holds fails ∷ []
asking_by (Not p) holds fails = p fails holds
asking_by (And a b) holds fails = both a (b holds fails) fails
asking_by (Or a b) holds fails = either a (b holds fails) holds

abbrev pub asking : Predicate → Asking
asking = fold-Predicate Asking asking_by

-- STATEMENTS

abbrev pub joined : List (List Instruction) → List Instruction
joined [] = []
joined (part ∷ parts) = part ++ joined parts

abbrev pub conditional : Predicate → List Instruction → Option (List Instruction) → List Instruction
conditional test then_part None = asking test 0 (length then_part) ++ then_part
conditional test then_part (Some other) =
    asking test 0 (suc (length then_part)) ++ (then_part ++ Skip (length other) ∷ other)

abbrev pub instructions_by : Statement-F (List Instruction) → List Instruction
instructions_by (When test then_part other) = conditional test then_part other
instructions_by (Act a) = Do a ∷ []
instructions_by (Block parts) = joined parts

abbrev pub instructions_of : Statement → List Instruction
instructions_of = fold-Statement (List Instruction) instructions_by

-- the program of a text
abbrev pub program_of : List Statement → List Instruction
program_of tree = joined (map instructions_of tree)
