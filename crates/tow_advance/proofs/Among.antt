-- The patterns of one instruction are among those of the program.
use Rattle.std.proofs.Common.{◌≡◌, ℕ, zero, suc, List, [], ◌∷◌, Some, slice_get, subst}
use Rattle.tow_model.specs.Texts.{Text}
use Rattle.tow_semantics.specs.Predicates.{AreAmong}
use Rattle.tow_pred.proofs.Among.{among_left, among_right}
use Rattle.tow_program.specs.declared.instruction.Instruction.{Instruction}
use Rattle.tow_advance.specs.Knowing.{instruction_patterns, program_patterns}

pub among_at : (program : List Instruction) (at : ℕ) (i : Instruction) (patterns : List Text) → slice_get program at ≡ Some i →
    AreAmong (program_patterns program) patterns → AreAmong (instruction_patterns i) patterns
among_at [] at i patterns is are = absurd cc
among_at (j ∷ program) zero i patterns is are =
    let e : j ≡ i = cc in
    subst (λ k. AreAmong (instruction_patterns k) patterns) e (among_left (instruction_patterns j) (program_patterns program) patterns are)
among_at (j ∷ program) (suc at) i patterns is are =
    among_at program at i patterns is (among_right (instruction_patterns j) (program_patterns program) patterns are)
