-- What programs do, in words of predicates, statements and texts.
use Rattle.std.specs.Prelude.{◌≡◌, ◌≢◌, ℕ, List, ◌++◌, if◌then◌else◌}
use Rattle.tow_model.specs.declared.request.Request.{Request}
use Rattle.tow_model.specs.declared.predicate.Predicate.{Predicate}
use Rattle.tow_model.specs.declared.statement.Statement.{Statement}
use Rattle.tow_semantics.specs.Predicates.{holds_of}
use Rattle.tow_semantics.specs.Plans.{Stand, Exits, passes, plan_of, tested}
use Rattle.tow_program.specs.declared.instruction.Instruction.{Instruction}
use Rattle.tow_program.specs.Programs.{asking, instructions_of, program_of}
use Rattle.tow_program.specs.Runs.{run, way_in}
use Rattle.tow_program.specs.Skips.{skipped}

abbrev pub PredicateHolds : Type 0
PredicateHolds =
    (q : Request) (m : ℕ) (exits : Exits) (p : Predicate) (holds fails : ℕ) (rest : List Instruction) (s : Stand) →
    run q m exits (asking p holds fails ++ rest) 0 s
    ≡ (let h = holds_of p q s.state m in run q m exits rest (if h.holds then holds else fails) (tested h.state s))

abbrev pub StatementIsPlan : Type 0
StatementIsPlan =
    (q : Request) (m : ℕ) (exits : Exits) (t : Statement) (rest : List Instruction) →
    run q m exits (instructions_of t ++ rest) 0 ≡ plan_of q m exits t (run q m exits rest 0)

abbrev pub ProgramIsPlan : Type 0
ProgramIsPlan =
    (tree : List Statement) (q : Request) (m left : ℕ) → way_in (program_of tree) q m left 0 ≡ passes tree q m left

-- Where tests of literal paths that fail are passed over, the program goes on as it does by asking them.
abbrev pub SkippedAreAsked : Type 0
SkippedAreAsked =
    (program : List Instruction) (q : Request) (m left at : ℕ) (s : Stand) → skipped program s.state.path at ≢ at →
    way_in program q m left at s ≡ way_in program q m left (skipped program s.state.path at) (tested s.state s)
