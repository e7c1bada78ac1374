-- The logs of a program stand where their places say.
use Rattle.std.proofs.Common.{◌≡◌, ℕ, zero, suc, ◌+◌, ◌⊎◌, inl, inr, List, [], ◌∷◌, Option, Some, None, slice_get, refl, sym, ap, subst, ◌∙◌, rules, arith}
use Rattle.std.specs.List.{cons_option}
use Rattle.std.specs.Option.{option_and_then}
use Rattle.tow_model.specs.declared.attribute.Piece.{Piece}
use Rattle.tow_program.specs.declared.instruction.Instruction.{Instruction}
use Rattle.tow_program.specs.Actions.{format_in, formats_in, logs_from, with_place}

abbrev format_at : List Instruction → ℕ → Option (List Piece)
format_at program at = option_and_then format_in (slice_get program at)

-- there is neither a place nor a format, or the place, so far behind, is that of the format
abbrev Found : ℕ → List Instruction → Option ℕ → Option (List Piece) → Type 0
Found at program place format =
    ((place ≡ None) × (format ≡ None)) ⊎ ((passed : ℕ) × (place ≡ Some (at + passed)) × (format_at program passed ≡ format))

later : (at : ℕ) (i : Instruction) (rest : List Instruction) (place : Option ℕ) (format : Option (List Piece)) →
    Found (suc at) rest place format → Found at (i ∷ rest) place format
later at i rest place format (inl none) = inl none
later at i rest place format (inr (passed, is, stands)) = inr (suc passed, is ∙ ap Some (omega (arith)), stands)

here : (o : Option (List Piece)) (at : ℕ) (i : Instruction) (rest : List Instruction) (number : ℕ) → format_in i ≡ o →
    ((n : ℕ) → Found (suc at) rest (slice_get (logs_from (suc at) rest) n) (slice_get (formats_in rest) n)) →
    Found at (i ∷ rest) (slice_get (with_place at o (logs_from (suc at) rest)) number) (slice_get (cons_option o (formats_in rest)) number)
here None at i rest number is behind = later at i rest _ _ (behind number)
here (Some format) at i rest zero is behind = inr (0, ap Some (omega (arith)), is)
here (Some format) at i rest (suc n) is behind = later at i rest _ _ (behind n)

found : (program : List Instruction) (at number : ℕ) → Found at program (slice_get (logs_from at program) number) (slice_get (formats_in program) number)
found [] at number = inl (refl, refl)
found (i ∷ rest) at number = here (format_in i) at i rest number refl (found rest (suc at))

lacks : (program : List Instruction) (place : Option ℕ) (format : Option (List Piece)) → Found 0 program place format → place ≡ None → format ≡ None
lacks program place format (inl (none, is)) lacking = is
lacks program place format (inr (passed, some, stands)) lacking = let wrong : Some (0 + passed) ≡ None = sym some ∙ lacking in cc

-- a number without a place is that of no log
pub no_log : (program : List Instruction) (number : ℕ) → slice_get (logs_from 0 program) number ≡ None → slice_get (formats_in program) number ≡ None
no_log program number = lacks program _ _ (found program 0 number)

stands_there : (program : List Instruction) (place : Option ℕ) (format : Option (List Piece)) (at : ℕ) → Found 0 program place format → place ≡ Some at →
    format_at program at ≡ format
stands_there program place format at (inl (none, is)) some = let wrong : None ≡ Some at = sym none ∙ some in cc
stands_there program place format at (inr (passed, is, stands)) some =
    let same : Some (0 + passed) ≡ Some at = sym is ∙ some in
    let there : 0 + passed ≡ at = cc in
    subst (λ n. format_at program n ≡ format) (omega (arith, there)) stands

-- the instruction at the place of a number has the format of the log of that number
pub log_stands : (program : List Instruction) (number at : ℕ) → slice_get (logs_from 0 program) number ≡ Some at →
    option_and_then format_in (slice_get program at) ≡ slice_get (formats_in program) number
log_stands program number at = stands_there program _ _ at (found program 0 number)
