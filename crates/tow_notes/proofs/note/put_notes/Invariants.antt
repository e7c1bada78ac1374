use Rattle.std.proofs.Common.{◌≡◌, ◌++◌, take, flat_map}
use Rattle.tow_notes.specs.Notes.{note_line}
use Rattle.tow_notes.specs.declared.note.Note.{Note}
use Rattle.tow_notes.proofs.note.put_notes.Given as goal

abbrev pub invariant-loop-note : goal.invariant-loop-note
invariant-loop-note l =
    l.out.items ≡ l.initial.out.items ++ flat_map (λ (n : Note). note_line l.text n) (take l.note-index l.notes)
