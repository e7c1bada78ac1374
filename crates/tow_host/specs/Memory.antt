-- What contracts see of a host in memory.
use Rattle.std.specs.Prelude.{◌≡◌, ℕ, Bool, List, [], map, Option, Some, string_bytes}
use Rattle.std.specs.Option.{option_map_or}
use Rattle.tow_model.specs.declared.account.Account.{Account}
use Rattle.tow_link.specs.Data.{SourceData, SinkData, content_of}
use Rattle.tow_link.specs.Counts.{Counts, count_at, own_counts}
use Rattle.tow_semantics.specs.Files.{Files}
use Rattle.tow_folder.specs.Folders.{FolderData}
use Rattle.tow_folder.specs.Memory.{files_told, memory_folder}
use Rattle.tow_folder.specs.declared.memory_folder.MemoryFolder.{MemoryFolder}
use Rattle.tow_host.specs.Held.{Held}
use Rattle.tow_host.specs.Logs.{MemoryLogData, memory_log, refused_faults}
use Rattle.tow_host.specs.Moments.{MomentsData, second_at}
use Rattle.tow_host.specs.declared.memory_folders.NamedFolder.{NamedFolder}
use Rattle.tow_host.specs.declared.memory_texts.NamedText.{NamedText}

-- A folder in memory: the connections whose calls failed, one for each; how many more calls failed without memory to note the
-- connection; and its files.
pub record MemoryFolderData : Type 0 where
  pub failed : List ℕ
  pub unnoted : ℕ
  pub files : Files

abbrev pub folder_seen : MemoryFolder → MemoryFolderData
folder_seen folder = record { failed = folder.failed.items; unnoted = folder.unnoted; files = files_told folder.files.items }

-- all of it, as every folder shows it
abbrev pub folder_shown : MemoryFolderData → FolderData
folder_shown folder = memory_folder folder.failed folder.unnoted folder.files

-- As `Held`, with its moments as a list, with the counts of its maker of patterns, with its folders and its logs as they are in
-- memory, and with the numbers of the logs that could not be had, one for each.
pub record MemoryHostData : Type 0 where
  pub text : SourceData
  pub handed : ℕ
  pub returned : ℕ
  pub text_faults : List (List ℕ × ℕ)
  pub texts : List (List ℕ × List ℕ)
  pub is_home : Bool
  pub input : SourceData
  pub output : SinkData
  pub maker : Counts
  pub moments : MomentsData
  pub folders : List MemoryFolderData
  pub folders_handed : ℕ
  pub folders_returned : ℕ
  pub folder_faults : List (List ℕ × ℕ)
  pub maps : List (List ℕ × Files)
  pub logs : List MemoryLogData
  pub logs_handed : ℕ
  pub logs_returned : ℕ
  pub refused_logs : List ℕ
  pub account : Option Account

-- all of it, as every host shows it
abbrev pub memory_held : MemoryHostData → Held
memory_held host = record {
  text = host.text;
  handed = host.handed;
  returned = host.returned;
  text_faults = own_counts host.text_faults;
  texts = Some host.texts;
  is_home = host.is_home;
  input = host.input;
  output = host.output;
  larges = count_at host.maker;
  moments = Some (second_at host.moments);
  folders = map folder_shown host.folders;
  folders_handed = host.folders_handed;
  folders_returned = host.folders_returned;
  folder_faults = own_counts host.folder_faults;
  maps = Some host.maps;
  logs = map memory_log host.logs;
  logs_handed = host.logs_handed;
  logs_returned = host.logs_returned;
  log_faults = refused_faults host.refused_logs 0;
  account = host.account;
}

-- all but the maker is as it was
abbrev pub MakerAlone : MemoryHostData → MemoryHostData → Type 0
MakerAlone old new = new ≡ record old { maker = new.maker }

-- all the bytes of a source that tells them
abbrev pub source_bytes : SourceData → List ℕ
source_bytes source = option_map_or content_of source.told []

-- a text's name and bytes
abbrev pub text_told : NamedText → List ℕ × List ℕ
text_told text = (string_bytes text.name, source_bytes text.source)

-- a folder's name and files
abbrev pub folder_told : NamedFolder → List ℕ × Files
folder_told folder = (string_bytes folder.name, files_told folder.files.items)

-- a folder of these files that has not failed
abbrev pub fresh_folder : Files → FolderData
fresh_folder files = memory_folder [] 0 files
