-- Folders: the files that they have, how often they have failed, and what their calls answer.
use Rattle.std.specs.Prelude.{◌≡◌, ℕ, ◌<◌, ◌≤◌, ◌==◌, Bool, not, ◌&&◌, ◌||◌, List, ◌++◌, length, take, drop, map, codes, Option, IsPermutation, if◌then◌else◌}
use Rattle.std.specs.List.{list_any}
use Rattle.std.specs.Str.{bytes_eq, is_utf8}
use Rattle.tow_model.specs.Texts.{Text}
use Rattle.tow_faults.specs.Faults.{NumberedFaults}
use Rattle.tow_semantics.specs.Files as files
use Rattle.tow_semantics.specs.Files.{Files, is_name, names_in}
use Rattle.tow_semantics.specs.Sites.{file_bytes}
use Rattle.tow_folder.specs.declared.answers.Look.{Look}
use Rattle.tow_folder.specs.declared.answers.Look.TheVariants as look
use Rattle.tow_folder.specs.declared.answers.Part.{Part}
use Rattle.tow_folder.specs.declared.answers.Part.TheVariants as part
use Rattle.tow_folder.specs.declared.answers.Listed.{Listed}
use Rattle.tow_folder.specs.declared.answers.Listed.TheVariants as listed
use Rattle.tow_folder.specs.declared.answers.Name.{Name}

-- how often a folder has failed, by the connection, and, where it tells, its files
pub record FolderData : Type 0 where
  pub faults : NumberedFaults
  pub told : Option Files

-- the root, or a path from there on that is UTF-8, without NUL and without an empty segment
abbrev pub is_askable : Text → Bool
is_askable path = bytes_eq path (codes "/") || (is_name path && is_utf8 path && not (list_any (λ b. b == 0) path))

-- the directory of a path, with a `/` at its end
abbrev pub directory_of : Text → Text
directory_of path = if bytes_eq path (codes "/") then path else path ++ codes "/"

-- ---- a look

abbrev pub look_for : files.Look → Look
look_for (files.AFile len second) = look.File len second
look_for files.ADirectory = look.Directory
look_for files.Absent = look.Absent

-- what stands at the path, but for a fault
abbrev pub Looks : Files → Text → Look → Type 0
Looks told path look.Failed = Unit {0}
Looks told path (look.File len second) = look.File len second ≡ look_for (files.look told path)
Looks told path look.Directory = look.Directory ≡ look_for (files.look told path)
Looks told path look.Absent = look.Absent ≡ look_for (files.look told path)

-- ---- a part of a file

-- the path has a file with more bytes than this
abbrev pub HasAt : Files → Text → ℕ → Type 0
HasAt told path at = at < length (file_bytes told path)

-- at least one byte, and no more than the buffer holds
abbrev pub PartFits : Part → ℕ → Type 0
PartFits (part.Got n) room = (0 < n) × (n ≤ room)
PartFits part.Failed room = Unit {0}

-- the next bytes of the file stand at the front of the buffer
abbrev pub ReadsPart : Files → Text → ℕ → Part → List ℕ → Type 0
ReadsPart told path at (part.Got n) to = take n to ≡ take n (drop at (file_bytes told path))
ReadsPart told path at part.Failed to = Unit {0}

-- ---- names

abbrev pub name_shown : Name → files.Name
name_shown name = record { text = name.text; directory = name.directory }

-- the direct children of the directory, each once, but for a fault and want of memory
abbrev pub ListsNames : Files → Text → Listed → Type 0
ListsNames told path (listed.Names names) = IsPermutation (names_in told (directory_of path)) (map name_shown names)
ListsNames told path listed.Failed = Unit {0}
ListsNames told path listed.NoMemory = Unit {0}
