-- The patterns of a program's tests, which a scratch has to be made for.
use Rattle.std.specs.Prelude.{◌≡◌, ℕ, List, [], flat_map}
use Rattle.tow_model.specs.declared.statement.Statement.{Statement}
use Rattle.tow_model.specs.Texts.{Text}
use Rattle.tow_semantics.specs.Predicates.{pattern_of}
use Rattle.tow_pred.specs.Numbering.{tree_patterns}
use Rattle.tow_program.specs.declared.instruction.Instruction.{Instruction}
use Rattle.tow_program.specs.declared.instruction.Instruction.TheVariants.{Ask}
use Rattle.tow_program.specs.Programs.{program_of}

abbrev pub instruction_patterns : Instruction → List (ℕ × Text)
instruction_patterns (Ask test holds fails) = pattern_of test
instruction_patterns other = []

-- the regex tests of a program, each with its number and pattern
abbrev pub program_patterns : List Instruction → List (ℕ × Text)
program_patterns program = flat_map instruction_patterns program

-- A program asks the tests of its text, in the order of the text.
abbrev pub ProgramAsksTree : Type 0
ProgramAsksTree = (tree : List Statement) → program_patterns (program_of tree) ≡ tree_patterns tree
