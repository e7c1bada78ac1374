-- What contracts see of a folder on the disk.
use Rattle.std.specs.Prelude.{ℕ, None}
use Rattle.tow_folder.specs.Folders.{FolderData}

-- it tells no files, and its one counter of faults stands for each connection
abbrev pub disk_folder : ℕ → FolderData
disk_folder faults = record { faults = record { own = λ k. 0; shared = faults }; told = None }
