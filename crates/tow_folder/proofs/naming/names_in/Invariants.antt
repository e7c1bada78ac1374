use Rattle.std.proofs.Common.{◌≡◌, map}
use Rattle.tow_semantics.specs.Files.{names_in}
use Rattle.tow_folder.specs.Folders.{name_shown, directory_of}
use Rattle.tow_folder.specs.Memory.{files_told}
use Rattle.tow_folder.proofs.Children.{onto}
use Rattle.tow_folder.proofs.naming.names_in.Given as goal

abbrev pub invariant-files : goal.invariant-files
invariant-files l = names_in (files_told l.files) (directory_of l.path) ≡ onto (directory_of l.path) (map name_shown l.names.items) (files_told l.file-iterator.iter.rest.now)
