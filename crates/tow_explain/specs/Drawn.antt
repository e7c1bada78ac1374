-- How a line of a text is shown, and what stands under it.
use Rattle.std.specs.Prelude.{ℕ, zero, suc, ◌+◌, ◌-◌, ◌/◌, ◌%◌, ◌==◌, nat_lt, false, List, [], ◌∷◌, ◌++◌, Option, None, Some, take, replicate, slice_index, if◌then◌else◌}
use Rattle.bstr.specs.Utf8.{decoded}
use Rattle.unicode_width.specs.Width.{char_width}
use Rattle.tow_explain.specs.declared.cell.Cell.{Cell}
use Rattle.tow_explain.specs.declared.cell.Cell.TheVariants.{Tab, Byte, Character}
use Rattle.tow_explain.specs.declared.drawing.Row.{Row}
use Rattle.tow_explain.specs.declared.drawing.Row.TheVariants.{Text, Under}

-- a character of this size, unless it takes no column
abbrev pub cell_as : ℕ → Option ℕ → Cell
cell_as size None = Byte
cell_as size (Some columns) = if columns == 0 then Byte else Character size columns

abbrev pub cell_with : ℕ → Option ℕ → Cell
cell_with size None = Byte
cell_with size (Some c) = if c == 9 then Tab else cell_as size (char_width false c)

-- what begins at the front of a text: a TAB, a character that takes columns, or one byte of anything else
unfoldable pub cell_at : List ℕ → Cell
cell_at text = cell_with (decoded text).size (decoded text).char

-- how many bytes of the text it takes
abbrev pub cell_size : Cell → ℕ
cell_size Tab = 1
cell_size Byte = 1
cell_size (Character size columns) = size

abbrev pub hex_digit : ℕ → ℕ
hex_digit d = if nat_lt d 10 then 48 + d else 87 + d

-- a byte as `\x` and two digits
abbrev pub escaped_byte : ℕ → List ℕ
escaped_byte b = 92 ∷ 120 ∷ hex_digit (b / 16) ∷ hex_digit (b % 16) ∷ []

-- what is shown of a cell at the front of a text
abbrev pub shown_cell : Cell → List ℕ → List ℕ
shown_cell Tab text = 9 ∷ []
shown_cell Byte text = escaped_byte (slice_index text 0)
shown_cell (Character size columns) text = take size text

-- what stands under it: a TAB under a TAB, else a space for each column
abbrev pub under_cell : Cell → List ℕ
under_cell Tab = 9 ∷ []
under_cell Byte = replicate 4 32
under_cell (Character size columns) = replicate columns 32

abbrev pub drawn_cell : Row → Cell → List ℕ → List ℕ
drawn_cell Text cell text = shown_cell cell text
drawn_cell Under cell text = under_cell cell

-- the row of a text, past its first n bytes
unfoldable pub drawn_after : Row → ℕ → List ℕ → List ℕ
drawn_after row n [] = []
drawn_after row (suc n) (b ∷ bs) = drawn_after row n bs
drawn_after row zero (b ∷ bs) =
    drawn_cell row (cell_at (b ∷ bs)) (b ∷ bs) ++ drawn_after row (cell_size (cell_at (b ∷ bs)) - 1) bs

-- the row of a text
abbrev pub drawn : Row → List ℕ → List ℕ
drawn row text = drawn_after row 0 text
