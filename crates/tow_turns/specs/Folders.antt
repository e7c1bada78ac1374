-- The folder of a worker.
use Rattle.std.specs.Prelude.{◌≡◌, ◌⊎◌, ℕ, true, List, Option, Some, None}
use Rattle.std.specs.Option.{ForSome}
use Rattle.tow_model.specs.declared.account.Role.{Role}
use Rattle.tow_model.specs.declared.account.Role.TheVariants.{Loop}
use Rattle.tow_semantics.specs.Files.{Files}
use Rattle.tow_folder.specs.Folders.{FolderData}
use Rattle.tow_sending.specs.Pieces.{HasParts, Piece, told_of_file, told_of_put}
use Rattle.tow_sending.specs.declared.sent.Sent.{Sent}
use Rattle.tow_walks.specs.Folders.{may_look}
use Rattle.tow_turns.specs.Roles.{IsLoop}

-- a folder that is there tells just these files
abbrev pub IsFolderOf : {F : Type 0} → (F → FolderData) → Option F → Files → Type 0
IsFolderOf shows None files = Unit {0}
IsFolderOf shows (Some folder) files = (shows folder).told ≡ Some files

-- where files are told, they have all that is to be put of them
abbrev pub HasPartsIn : Option Files → List Piece → Type 0
HasPartsIn told pieces = ForSome told (λ (files : Files). HasParts files pieces)

-- who is no I/O loop is a worker that has a folder
abbrev pub HasFolder : {F : Type 0} → Role → Option F → Type 0
HasFolder role folder = IsLoop role ⊎ (may_look role folder ≡ true)

-- what is told of the next piece, which a loop puts only if it is no file's
abbrev pub told_under : Role → ℕ → List Piece → Sent
told_under (Loop i) room pieces = told_of_put room pieces
told_under other room pieces = told_of_file room pieces
