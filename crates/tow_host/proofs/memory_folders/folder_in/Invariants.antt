use Rattle.std.proofs.Common.{◌≡◌, drop, map}
use Rattle.tow_host.specs.Maps.{map_named}
use Rattle.tow_host.specs.Memory.{folder_told}
use Rattle.tow_host.proofs.memory_folders.folder_in.Given as goal

abbrev pub invariant-folders : goal.invariant-folders
invariant-folders l = map_named (map folder_told l.folders) l.name ≡ map_named (map folder_told (drop l.folder-index l.folders)) l.name
