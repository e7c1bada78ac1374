-- The actions of a program, and what its logs and limits are.
use Rattle.std.specs.Prelude.{◌≡◌, ℕ, suc, List, [], ◌∷◌, filter_map, Option, Some, None}
use Rattle.tow_model.specs.declared.account.Bound.{Bound}
use Rattle.tow_model.specs.declared.action.Action.{Action}
use Rattle.tow_model.specs.declared.attribute.Piece.{Piece}
use Rattle.tow_model.specs.declared.statement.Statement.{Statement}
use Rattle.tow_semantics.specs.Listeners.{actions_of, bound_of_action, bounds_of, format_of_action, formats_of}
use Rattle.tow_program.specs.declared.instruction.Instruction.{Instruction}
use Rattle.tow_program.specs.declared.instruction.Instruction.TheVariants.{Ask, Do, Skip}
use Rattle.tow_program.specs.Programs.{program_of}

abbrev pub action_in : Instruction → Option Action
action_in (Ask test holds fails) = None
action_in (Do action) = Some action
action_in (Skip passed) = None

-- the actions of a program in its order
abbrev pub actions_in : List Instruction → List Action
actions_in program = filter_map action_in program

-- the format of the log that an instruction adds
abbrev pub format_in : Instruction → Option (List Piece)
format_in (Ask test holds fails) = None
format_in (Do action) = format_of_action action
format_in (Skip passed) = None

-- the limit that an instruction enters
abbrev pub bound_in : Instruction → Option Bound
bound_in (Ask test holds fails) = None
bound_in (Do action) = bound_of_action action
bound_in (Skip passed) = None

-- the formats of a program's logs and the bounds of its limits, each by its number
abbrev pub formats_in : List Instruction → List (List Piece)
formats_in program = filter_map format_in program

abbrev pub bounds_in : List Instruction → List Bound
bounds_in program = filter_map bound_in program

-- one more place, if there is a format
abbrev pub with_place : ℕ → Option (List Piece) → List ℕ → List ℕ
with_place at None places = places
with_place at (Some format) places = at ∷ places

-- the places of the instructions that add a log, where the first one stands at this place
abbrev pub logs_from : ℕ → List Instruction → List ℕ
logs_from at [] = []
logs_from at (instruction ∷ rest) = with_place at (format_in instruction) (logs_from (suc at) rest)

-- The program of a text has the actions of the text, in its order.
abbrev pub ActionsAreTree : Type 0
ActionsAreTree = (tree : List Statement) → actions_in (program_of tree) ≡ actions_of tree

-- So it has the formats of the text's logs.
abbrev pub FormatsAreTree : Type 0
FormatsAreTree = (tree : List Statement) → formats_in (program_of tree) ≡ formats_of tree

-- And it has the bounds of the text's limits.
abbrev pub BoundsAreTree : Type 0
BoundsAreTree = (tree : List Statement) → bounds_in (program_of tree) ≡ bounds_of tree
