-- The folders of a host, each under a name.
use Rattle.std.specs.Prelude.{◌≡◌, ℕ, List, Option, None, Some, IfSome, IsSomeAnd, if◌then◌else◌}
use Rattle.tow_link.specs.Entries.{entry_at}
use Rattle.tow_semantics.specs.Files.{Files, is_map}
use Rattle.tow_folder.specs.Folders.{FolderData}

-- the files of the folder of a name
abbrev pub map_named : List (List ℕ × Files) → List ℕ → Option Files
map_named maps name = entry_at maps name

-- where the host tells the files of its folders: there is a folder of this name, and this one has just its files
abbrev pub ShowsMap : Option (List (List ℕ × Files)) → List ℕ → FolderData → Type 0
ShowsMap maps name folder = IfSome maps (λ told. IsSomeAnd (map_named told name) (λ files. folder.told ≡ Some files))

-- the files, where they are the map of a folder
abbrev pub if_map : Option Files → Option Files
if_map None = None
if_map (Some files) = if is_map files then Some files else None
