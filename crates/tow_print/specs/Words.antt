-- What bytes are still to come for a text to be printed as a Word, and how a text stands in the printed form.
use Rattle.std.specs.Prelude.{ℕ, Bool, true, false, not, ◌&&◌, ◌==◌, List, [], ◌∷◌, flat_map, codes, if◌then◌else◌}
use Rattle.tow_language.specs.Tokens.{are_pieces, next_is}
use Rattle.tow_language.specs.Printed.{is_word}
use Rattle.tow_print.specs.declared.printer.spelling.Spelling.{Spelling}
use Rattle.tow_print.specs.declared.printer.spelling.Spelling.TheVariants.{Empty, Plain, Dash, Sign, Inside, Broken}
use Rattle.tow_print.specs.declared.printer.style.Style.{Style}
use Rattle.tow_print.specs.declared.printer.style.Style.TheVariants as styles

-- whether the bytes make what was seen before them one Word
abbrev pub ahead : Spelling → List ℕ → Bool
ahead Empty bytes = is_word bytes
ahead Plain bytes = are_pieces false bytes []
ahead Dash bytes = not (next_is 62 bytes) && are_pieces false bytes []
ahead Sign bytes = are_pieces (next_is 123 bytes) bytes []
ahead Inside bytes = are_pieces true bytes []
ahead Broken bytes = false

-- a byte between two quotes
abbrev pub quoted_byte : ℕ → List ℕ
quoted_byte b = if b == 39 then codes "\\'" else b ∷ []

-- the bytes of a text, without the quotes round it
abbrev pub bytes_in : Style → List ℕ → List ℕ
bytes_in styles.Bare bytes = bytes
bytes_in styles.Quoted bytes = flat_map quoted_byte bytes

-- the quote before and behind a text
abbrev pub quote_in : Style → List ℕ
quote_in styles.Bare = []
quote_in styles.Quoted = codes "'"

-- the style in which bytes are printed
abbrev pub style_for : Bool → Style
style_for true = styles.Bare
style_for false = styles.Quoted
