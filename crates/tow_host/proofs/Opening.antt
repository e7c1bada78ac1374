-- Folders in memory: what a new one shows, and that a copy of its files tells the same.
use Rattle.std.proofs.Common.{◌≡◌, ◌∙◌, ◌<◌, ◌+◌, ℕ, List, [], ◌∷◌, ◌++◌, length, take, get_or, Bool, true, false, Option, Some, None, option_map, if◌then◌else◌, ap, ap₂, sym}
use Rattle.std.proofs.lemmas.List.{map-append, take_more}
use Rattle.std.specs.Prelude.{unwrap_or}
use Rattle.tow_semantics.specs.Files.{Files, is_map}
use Rattle.tow_faults.specs.Faults.{faults_for}
use Rattle.tow_folder.specs.Folders.{FolderData}
use Rattle.tow_folder.specs.Memory.{file_told, files_told}
use Rattle.tow_folder.specs.declared.memory_file.MemoryFile.{MemoryFile}
use Rattle.tow_host.specs.Held.{IsNewFolder}
use Rattle.tow_host.specs.Maps.{if_map}
use Rattle.tow_host.specs.Memory.{fresh_folder}

-- a folder that was opened has not failed
pub is_new : (folder : FolderData) (found : Option Files) → Some folder ≡ option_map fresh_folder (if_map found) → IsNewFolder folder
is_new folder None is = absurd (cc)
is_new folder (Some files) is = here (is_map files) is
  where
    here : (test : Bool) → Some folder ≡ option_map fresh_folder (if test then Some files else None) → IsNewFolder folder
    here true is = record { faults = λ k. ap (λ (f : Option FolderData). faults_for (unwrap_or f folder).faults k) is }
    here false is = absurd (cc)

-- one more file was copied, with its path, its second and its bytes
pub copied_on : (files done : List MemoryFile) (at : ℕ) (item copy : MemoryFile) → at < length files → item ≡ get_or files at item
    → files_told done ≡ files_told (take at files) → copy.path ≡ item.path → copy.second ≡ item.second → copy.bytes ≡ item.bytes
    → files_told (done ++ copy ∷ []) ≡ files_told (take (at + 1) files)
copied_on files done at item copy within is so_far path second bytes =
    let same : file_told copy ≡ file_told item = λ i. record { path = path i; second = second i; bytes = bytes i } in
    map-append file_told done (copy ∷ []) ∙ ap₂ (λ front last. front ++ last ∷ []) so_far (same ∙ ap file_told is)
    ∙ sym (ap files_told (take_more files at item within) ∙ map-append file_told (take at files) (get_or files at item ∷ []))
