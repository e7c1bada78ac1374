-- The lines of notes.
use Rattle.std.specs.Prelude.{ℕ, List, ◌++◌, codes, decimal}
use Rattle.tow_explain.specs.Drawn.{drawn}
use Rattle.tow_explain.specs.declared.drawing.Row.TheVariants.{Text}
use Rattle.tow_language.specs.Fault.{column_of, line_of}
use Rattle.tow_notes.specs.Remarks.{words_of}
use Rattle.tow_notes.specs.declared.note.Note.{Note}

-- the line of a note on a text: its line and column, a sentence, and what it is about
unfoldable pub note_line : List ℕ → Note → List ℕ
note_line text n =
    codes "note: " ++ decimal (line_of text n.place) ++ codes ":" ++ decimal (column_of text n.place) ++ codes ": "
    ++ words_of n.remark ++ codes ": `" ++ drawn Text n.subject ++ codes "`\n"
