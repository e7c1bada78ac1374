-- What a call takes, as a person reads it.
use Rattle.std.specs.Prelude.{ℕ, List, [], ◌∷◌, ◌++◌, Option, None, Some, codes, decimal, true, false}
use Rattle.tow_language.specs.declared.table.Shape.{Shape}
use Rattle.tow_language.specs.declared.table.Shape.TheVariants as shapes
use Rattle.tow_language.specs.declared.signatures.Parameter.{Parameter}
use Rattle.tow_language.specs.declared.signatures.Standard.{Standard}
use Rattle.tow_language.specs.declared.signatures.Standard.TheVariants as standards

-- what a value of this shape is, but for its bounds
unfoldable pub fixed_words : Shape → List ℕ
fixed_words shapes.Pattern = codes "a pattern of regex"
fixed_words shapes.Texts = codes "one text or more"
fixed_words shapes.Paths = codes "one path or more"
fixed_words shapes.Prefixes = codes "one prefix of paths or more"
fixed_words shapes.Location = codes "a prefix of paths"
fixed_words shapes.Match = codes "a path, with {name} for a segment that is bound"
fixed_words shapes.Tokens = codes "one method or more"
fixed_words shapes.OneTemplate = codes "a text, with attributes or without"
fixed_words shapes.Templates = codes "one text or more, with attributes or without"
fixed_words shapes.Format = codes "common, combined, or a text with attributes"
fixed_words shapes.Writable = codes "one attribute that may be written"
fixed_words shapes.FieldName = codes "the name of a field"
fixed_words (shapes.Number low high) = codes "a number"
fixed_words shapes.Status = codes "a status from 200 to 599 other than 205"
fixed_words shapes.Truth = codes "true or false"

-- the bounds of a number
abbrev pub bounds_words : Shape → List ℕ
bounds_words (shapes.Number low high) = codes " from " ++ decimal low ++ codes " to " ++ decimal high
bounds_words other = []

-- what stands for it if it is not written
abbrev pub standard_words : Option Standard → List ℕ
standard_words None = []
standard_words (Some standards.ThePath) = codes "; %R if it is left out"
standard_words (Some (standards.Truth true)) = codes "; true if it is left out"
standard_words (Some (standards.Truth false)) = codes "; false if it is left out"
standard_words (Some standards.Common) = codes "; common if it is left out"

abbrev pub parameter_words : Parameter → List ℕ
parameter_words p = p.name.now ++ codes ": " ++ fixed_words p.shape ++ bounds_words p.shape ++ standard_words p.standard

abbrev pub takes_words : List Parameter → List ℕ
takes_words [] = codes " takes nothing"
takes_words (p ∷ ps) = codes " takes"
