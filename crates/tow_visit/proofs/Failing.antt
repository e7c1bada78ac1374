-- A line says that the folder failed only if it did.
use Rattle.std.proofs.Common.{◌≡◌, ◌++◌, ℕ, [], false, codes, decimal, refl}
use Rattle.std.proofs.lemmas.Bool.Decides.{not_from_Decides}
use Rattle.std.proofs.lemmas.Slice.Eq.{bytes_eq-Decides}
use Rattle.std.specs.Str.{bytes_eq}
use Rattle.tow_folder.specs.declared.answers.Listed.{Listed}
use Rattle.tow_folder.specs.declared.answers.Listed.TheVariants as listed
use Rattle.tow_folder.specs.declared.answers.Look.{Look}
use Rattle.tow_folder.specs.declared.answers.Look.TheVariants as look
use Rattle.tow_folder.specs.declared.answers.Part.{Part}
use Rattle.tow_folder.specs.declared.answers.Part.TheVariants as part
use Rattle.tow_model.specs.Texts.{Text}
use Rattle.tow_visit.specs.Lines.{look_line, names_line, part_line}

-- a line that is told otherwise
other : (line : Text) → bytes_eq line (codes "failed") ≡ false → line ≡ codes "failed" → ⊥
other line differs = not_from_Decides _ (bytes_eq-Decides line (codes "failed")) differs

pub look_fails : (l : Look) → look_line l ≡ codes "failed" → l ≡ look.Failed
look_fails (look.File len second) is = absurd (other (look_line (look.File len second)) refl is)
look_fails look.Directory is = absurd (other (look_line look.Directory) refl is)
look_fails look.Absent is = absurd (other (look_line look.Absent) refl is)
look_fails look.Failed is = refl

pub part_fails : (p : Part) (buffer : Text) → part_line p buffer ≡ codes "failed" → p ≡ part.Failed
part_fails (part.Got n) buffer is = absurd (other (part_line (part.Got n) buffer) refl is)
part_fails part.Failed buffer is = refl

pub names_fail : (l : Listed) → names_line l ≡ codes "failed" → l ≡ listed.Failed
names_fail (listed.Names names) is = absurd (other (names_line (listed.Names names)) refl is)
names_fail listed.Failed is = refl
names_fail listed.NoMemory is = absurd (other [] refl is)

-- a count is told by another line
pub count_is_told : (n : ℕ) → codes "faults " ++ decimal n ≡ codes "failed" → ⊥
count_is_told n is = other (codes "faults " ++ decimal n) refl is
