use Rattle.std.proofs.Common.{◌≡◌, drop}
use Rattle.tow_semantics.specs.Sites.{file_bytes}
use Rattle.tow_folder.specs.Memory.{files_told}
use Rattle.tow_folder.proofs.looking.bytes_at.Given as goal

abbrev pub invariant-files : goal.invariant-files
invariant-files l = file_bytes (files_told l.files) l.path ≡ file_bytes (files_told (drop l.file-index l.files)) l.path
