use Rattle.std.proofs.Common.{◌≡◌, ◌++◌, flat_map, string_bytes, take}
use Rattle.tow_visit.specs.Lines.{name_part}
use Rattle.tow_visit.proofs.answering.append_names.Given as goal

-- the names so far stand after what there was
abbrev pub invariant-loop-name : goal.invariant-loop-name
invariant-loop-name l =
    string_bytes l.line ≡ string_bytes l.initial.line ++ flat_map name_part (take l.name-index l.names)
