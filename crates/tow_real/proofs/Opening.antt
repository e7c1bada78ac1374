-- What a new folder on the disk shows.
use Rattle.std.proofs.Common.{◌≡◌, ◌+◌, ap}
use Rattle.tow_folder.specs.Folders.{FolderData}
use Rattle.tow_disk.specs.Disk.{disk_folder}
use Rattle.tow_host.specs.Held.{IsNewFolder}

-- it has failed for no connection
pub is_new : (folder : FolderData) → folder ≡ disk_folder 0 → IsNewFolder folder
is_new folder is = record { faults = λ k. ap (λ (f : FolderData). f.faults.own k + f.faults.shared) is }
