use Rattle.std.proofs.Common.{◌≡◌, length}
use Rattle.tow_semantics.specs.Sites.{file_bytes}
use Rattle.tow_folder.specs.Memory.{files_told}
use Rattle.tow_folder.proofs.tests.parts.Given as goal

abbrev pub invariant-places : goal.invariant-places
invariant-places l = l.len ≡ length (file_bytes (files_told l.folder.files.items) l.path)
