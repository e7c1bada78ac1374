-- What contracts see of a folder in memory.
use Rattle.std.specs.Prelude.{ℕ, ◌+◌, ◌==◌, List, [], ◌∷◌, filter, length, map, Some, Option, None, drop, option_map, is_some, if◌then◌else◌}
use Rattle.std.specs.Str.{bytes_eq}
use Rattle.tow_model.specs.Texts.{Text, begins_with, is_before, before, after}
use Rattle.tow_model.specs.Paths.{slash}
use Rattle.tow_faults.specs.Faults.{NumberedFaults}
use Rattle.tow_semantics.specs.Files.{File, Files, Name}
use Rattle.tow_folder.specs.declared.memory_file.MemoryFile.{MemoryFile}
use Rattle.tow_folder.specs.Folders.{FolderData}

-- a file of the map
abbrev pub file_told : MemoryFile → File
file_told file = record { path = file.path; second = file.second; bytes = file.bytes }

abbrev pub files_told : List MemoryFile → Files
files_told files = map file_told files

-- how often a connection stands among them
abbrev pub times_among : List ℕ → ℕ → ℕ
times_among failed k = length (filter (λ other. other == k) failed)

-- the faults of which the connections were noted, one for each, and how many more there were
abbrev pub noted_faults : List ℕ → ℕ → NumberedFaults
noted_faults failed unnoted = record { own = times_among failed; shared = unnoted }

-- a folder of these files with these faults
abbrev pub memory_folder : List ℕ → ℕ → Files → FolderData
memory_folder failed unnoted files = record { faults = noted_faults failed unnoted; told = Some files }

-- what stands in a name behind its front, if it begins with that
abbrev pub behind : Text → Text → Option Text
behind front name = if begins_with front name then Some (drop (length front) name) else None

-- Where a name of this text goes among names in byte order; nowhere if it stands there.
abbrev pub place_for : Text → List Name → Option ℕ
place_for text [] = Some 0
place_for text (k ∷ ks) =
    if bytes_eq text k.text then None else (if is_before text k.text then Some 0 else option_map (λ place. place + 1) (place_for text ks))

-- the child whose name stands first in what is behind its directory
abbrev pub child_named : Text → Name
child_named rest = record { text = before slash rest; directory = is_some (after slash rest) }
