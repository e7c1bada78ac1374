-- The folder of a walk, where there is one.
use Rattle.std.specs.Prelude.{◌≡◌, ℕ, ◌≤◌, Bool, true, false, Option, Some, None}
use Rattle.tow_model.specs.declared.account.Role.{Role}
use Rattle.tow_model.specs.declared.account.Role.TheVariants.{Worker}
use Rattle.tow_semantics.specs.Files.{Files}
use Rattle.tow_faults.specs.Faults.{KeepsOtherFaults, faults_for}
use Rattle.tow_folder.specs.Folders.{FolderData}

abbrev pub IsWorker : Role → Type 0
IsWorker (Worker i) = Unit {0}
IsWorker other = ⊥

-- A page is looked for by a worker that has a folder.
abbrev pub may_look : {F : Type 0} → Role → Option F → Bool
may_look (Worker i) (Some folder) = true
may_look role folder = false

-- the files that are told, by a folder that tells
abbrev pub told_by : {F : Type 0} → (F → FolderData) → Option F → Option Files
told_by shows None = None
told_by shows (Some folder) = (shows folder).told

-- how often the folder has failed for a connection
abbrev pub faults_by : {F : Type 0} → (F → FolderData) → Option F → ℕ → ℕ
faults_by shows None k = 0
faults_by shows (Some folder) k = faults_for (shows folder).faults k

-- The files stay. The faults of connection k do not fall, and those of the others are as they were.
pub record LeavesFolder (k : ℕ) (old new : FolderData) : Type 0 where
  pub told : new.told ≡ old.told
  pub later : faults_for old.faults k ≤ faults_for new.faults k
  pub others : KeepsOtherFaults old.faults new.faults k

abbrev pub FolderStays : {F : Type 0} → (F → FolderData) → ℕ → Option F → Option F → Type 0
FolderStays shows k None None = Unit {0}
FolderStays shows k (Some old) (Some new) = LeavesFolder k (shows old) (shows new)
FolderStays shows k None (Some new) = ⊥
FolderStays shows k (Some old) None = ⊥
