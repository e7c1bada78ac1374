-- The program of a handlers text.
use Rattle.std.specs.Prelude.{◌≡◌, List}
use Rattle.tow_model.specs.declared.statement.Statement.{Statement}
use Rattle.tow_program.specs.declared.instruction.Instruction.{Instruction}
use Rattle.tow_program.specs.Programs.{program_of}

-- it is the program of some text
abbrev pub IsText : List Instruction → Type 0
IsText program = (tree : List Statement) × (program ≡ program_of tree)
