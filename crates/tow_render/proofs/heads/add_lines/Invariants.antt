use Rattle.std.proofs.Common.{◌≡◌, ◌++◌, flat_map, take}
use Rattle.tow_wire.specs.Answers.{field_line}
use Rattle.tow_render.proofs.heads.add_lines.Given as goal

-- the lines of the fields so far stand behind what there was
abbrev pub invariant-loop-field : goal.invariant-loop-field
invariant-loop-field l = l.lines.items ≡ l.initial.lines.items ++ flat_map field_line (take l.field-index l.fields)
