-- The patterns of a text's program are among those that are searched for.
use Rattle.std.proofs.Common.{◌≡◌, ℕ, List, sym, subst}
use Rattle.tow_model.specs.Texts.{Text}
use Rattle.tow_model.specs.declared.statement.Statement.{Statement}
use Rattle.tow_semantics.specs.Predicates.{AreAmong}
use Rattle.tow_pred.specs.Numbering.{IsNumbered, tree_patterns}
use Rattle.tow_pred.proofs.Trees.{numbered_among}
use Rattle.tow_program.specs.declared.instruction.Instruction.{Instruction}
use Rattle.tow_program.specs.Programs.{program_of}
use Rattle.tow_advance.specs.Knowing.{program_patterns}
use Rattle.tow_advance.proofs.Asked.{program_asks_tree}
use Rattle.tow_site.specs.Compiled.{pattern_texts}

pub patterns_among : (program : List Instruction) (tree : List Statement) (patterns : List Text) → program ≡ program_of tree
    → IsNumbered tree → patterns ≡ pattern_texts tree → AreAmong (program_patterns program) patterns
patterns_among program tree patterns is numbered same =
    subst (λ (p : List Instruction). AreAmong (program_patterns p) patterns) (sym is)
    (subst (λ (tests : List (ℕ × Text)). AreAmong tests patterns) (sym (program_asks_tree tree))
    (subst (λ (texts : List Text). AreAmong (tree_patterns tree) texts) (sym same) (numbered_among (tree_patterns tree) numbered)))
