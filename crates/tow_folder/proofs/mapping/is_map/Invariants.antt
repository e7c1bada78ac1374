use Rattle.std.proofs.Common.{◌≡◌, drop}
use Rattle.tow_semantics.specs.Files.{is_map}
use Rattle.tow_folder.specs.Memory.{files_told}
use Rattle.tow_folder.proofs.mapping.is_map.Given as goal

abbrev pub invariant-files : goal.invariant-files
invariant-files l = is_map (files_told l.files) ≡ is_map (files_told (drop l.place l.files))
