-- The formats that a program has are those of its text.
use Rattle.std.proofs.Common.{◌≡◌, ◌↔◌, ℕ, ◌<◌, IsTrue, List, [], length, Option, Some, None, slice_get, refl, sym, ap, ◌∙◌}
use Rattle.std.specs.Borrow.{Bor}
use Rattle.std.specs.Option.{is_some, option_copied}
use Rattle.std.proofs.lemmas.Option.{get_or_from_slice_get, slice_get-get_or, slice_get_within}
use Rattle.tow_model.specs.declared.attribute.Piece.{Piece}
use Rattle.tow_model.specs.declared.statement.Statement.{Statement}
use Rattle.tow_semantics.specs.Listeners.{at_number, formats_of}
use Rattle.tow_program.specs.declared.instruction.Instruction.{Instruction}
use Rattle.tow_program.specs.Actions.{formats_in}
use Rattle.tow_program.specs.Programs.{program_of}
use Rattle.tow_program.proofs.Acting.{formats_are_tree}

formats_same : (program : List Instruction) (tree : List Statement) → program ≡ program_of tree → formats_in program ≡ formats_of tree
formats_same program tree is = ap formats_in is ∙ formats_are_tree tree

-- what was found under a number is the format of that number
pub found : (program : List Instruction) (tree : List Statement) (number : ℕ) (o : Option (List Piece)) → program ≡ program_of tree →
    o ≡ slice_get (formats_in program) number → o ≡ slice_get (formats_of tree) number
found program tree number o is there = there ∙ ap (λ fs. slice_get fs number) (formats_same program tree is)

pub format_is : (tree : List Statement) (number : ℕ) (format : List Piece) → Some format ≡ slice_get (formats_of tree) number →
    format ≡ at_number number (formats_of tree)
format_is tree number format there = sym (get_or_from_slice_get (formats_of tree) number format [] (sym there))

pub is_within : (tree : List Statement) (number : ℕ) (format : List Piece) → Some format ≡ slice_get (formats_of tree) number →
    number < length (formats_of tree)
is_within tree number format there = slice_get_within (formats_of tree) number format (sym there)

pub is_there : (tree : List Statement) (number : ℕ) → None ≡ slice_get (formats_of tree) number → number < length (formats_of tree) → ⊥
is_there tree number lacks below = let wrong = lacks ∙ slice_get-get_or (formats_of tree) number [] below in cc

pub has_one : (tree : List Statement) (number : ℕ) (o : Option (Bor (List Piece))) → option_copied o ≡ slice_get (formats_of tree) number →
    (IsTrue (is_some o) ↔ (number < length (formats_of tree)))
has_one tree number None lacks = (λ is. absurd (cc), λ below. absurd (is_there tree number lacks below))
has_one tree number (Some format) there = (λ is. is_within tree number format.now there, λ below. refl)
