use Rattle.std.proofs.Common.{◌≡◌, take}
use Rattle.tow_folder.specs.Memory.{files_told}
use Rattle.tow_host.proofs.memory_folders.copied.Given as goal

abbrev pub invariant-files : goal.invariant-files
invariant-files l = files_told l.copy.items ≡ files_told (take l.file-index l.files)
