-- How far a part of a file is read.
use Rattle.std.specs.Prelude.{◌≡◌, ℕ, ◌≤◌, List, length, take, IfSome}
use Rattle.tow_faults.specs.Faults.{KeepsOtherFaults, faults_for}
use Rattle.tow_folder.specs.Folders.{FolderData}
use Rattle.tow_model.specs.Texts.{Text}
use Rattle.tow_semantics.specs.Sites.{file_bytes}
use Rattle.tow_wire.specs.Answers.{part_of}

-- the first `got` bytes of the slice are those of the file from this place on, and no more faults than those of k are counted
pub record IsReadSoFar (folder folder' : FolderData) (k : ℕ) (path : Text) (from : ℕ) (to to' : List ℕ) (got : ℕ) : Type 0 where
  pub within : got ≤ length to
  pub len : length to' ≡ length to
  pub read : IfSome folder.told (λ files. take got to' ≡ part_of from got (file_bytes files path))
  pub told : folder'.told ≡ folder.told
  pub later : faults_for folder.faults k ≤ faults_for folder'.faults k
  pub others : KeepsOtherFaults folder.faults folder'.faults k
