-- The line of a text, and what of it is shown round a column.
use Rattle.std.specs.Prelude.{ℕ, zero, suc, ◌+◌, ◌-◌, ◌&&◌, ◌==◌, nat_lt, nat_le, List, [], length, take, drop, slice_index, codes, unwrap_or, if◌then◌else◌}
use Rattle.std.specs.List.{take_while}
use Rattle.bstr.specs.Utf8.{continues}
use Rattle.tow_model.specs.Texts.{before, after}
use Rattle.tow_explain.specs.declared.cut.TheConstants.{MOST_SHOWN}

-- the text behind its first n line ends
abbrev pub after_lines : ℕ → List ℕ → List ℕ
after_lines zero text = text
after_lines (suc n) text = after_lines n (unwrap_or (after 10 text) [])

-- a line without the CR of its line end
abbrev pub without_return : List ℕ → List ℕ
without_return line =
    if nat_lt 0 (length line) && (slice_index line (length line - 1) == 13) then take (length line - 1) line else line

-- the line of this number, from 1, without its line end
abbrev pub line_text : List ℕ → ℕ → List ℕ
line_text text line = without_return (before 10 (after_lines (line - 1) text))

-- how many of the first three bytes go on a character
abbrev pub continued : List ℕ → ℕ
continued text = length (take_while continues (take 3 text))

-- the end of a text that is shown: at most so many bytes, without the rest of a character that is cut
abbrev pub near_front : List ℕ → List ℕ
near_front text =
    if nat_le (length text) MOST_SHOWN then text else
    (let last = drop (length text - MOST_SHOWN) text in drop (continued last) last)

-- the front of a text that is shown, with the rest of its last character
abbrev pub near_back : List ℕ → List ℕ
near_back text =
    if nat_le (length text) MOST_SHOWN then text else take (MOST_SHOWN + continued (drop MOST_SHOWN text)) text

-- what stands in place of what is not shown
abbrev pub dots : List ℕ → List ℕ
dots text = if nat_le (length text) MOST_SHOWN then [] else codes "..."
