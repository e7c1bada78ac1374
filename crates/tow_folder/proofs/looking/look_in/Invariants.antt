use Rattle.std.proofs.Common.{◌≡◌, ◌||◌, ◌++◌, codes, drop}
use Rattle.tow_semantics.specs.Files.{file_at, is_directory}
use Rattle.tow_folder.specs.Memory.{files_told}
use Rattle.tow_folder.proofs.looking.look_in.Given as goal

abbrev pub invariant-files : goal.invariant-files
invariant-files l = record {
  file : file_at (files_told l.files) l.path ≡ file_at (files_told (drop l.file-index l.files)) l.path;
  directory : is_directory (files_told l.files) (l.path ++ codes "/") ≡ (l.directory || is_directory (files_told (drop l.file-index l.files)) (l.path ++ codes "/"));
}
