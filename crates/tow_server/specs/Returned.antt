-- What of a host changes where a text's source and the streams are handed back, and what no command of today changes.
use Rattle.std.specs.Prelude.{◌≡◌, ℕ, ◌||◌, List, Option, if◌then◌else◌, is_some}
use Rattle.std.specs.Option.{option_map_or}
use Rattle.tow_model.specs.declared.account.Account.{Account}
use Rattle.tow_faults.specs.Faults.{NumberedFaults}
use Rattle.tow_link.specs.Data.{SourceData, SinkData, raised}
use Rattle.tow_link.specs.Counts.{Counts}
use Rattle.tow_link.specs.declared.joined.Joined.{Joined}
use Rattle.tow_semantics.specs.Files.{Files}
use Rattle.tow_folder.specs.Folders.{FolderData}
use Rattle.tow_host.specs.Held.{Held, input_shown, output_shown}
use Rattle.tow_host.specs.Logs.{LogData}

-- each part that is there is held from then on, as what it shows
abbrev pub with_parts : {T I O : Type 0} → (T → SourceData) → (I → SourceData) → (O → SinkData) → Option T → Option (Joined I O) → Held → Held
with_parts text_shows input_shows output_shows text streams old = record old {
  text = option_map_or text_shows text old.text;
  returned = if is_some text then raised old.returned else old.returned;
  is_home = is_some streams || old.is_home;
  input = option_map_or (input_shown input_shows) streams old.input;
  output = option_map_or (output_shown output_shows) streams old.output;
}

-- What no command of today changes: the texts, the moments and the folders' files that a host tells, its folders and its logs, the
-- counts of those that were handed out, handed back and refused, and the account.
pub record Untouched : Type 0 where
  pub texts : Option (List (List ℕ × List ℕ))
  pub moments : Option (ℕ → ℕ → ℕ)
  pub folders : List FolderData
  pub folders_handed : ℕ
  pub folders_returned : ℕ
  pub folder_faults : Counts
  pub maps : Option (List (List ℕ × Files))
  pub logs : List LogData
  pub logs_handed : ℕ
  pub logs_returned : ℕ
  pub log_faults : NumberedFaults
  pub account : Option Account

abbrev pub untouched : Held → Untouched
untouched held = record {
  texts = held.texts;
  moments = held.moments;
  folders = held.folders;
  folders_handed = held.folders_handed;
  folders_returned = held.folders_returned;
  folder_faults = held.folder_faults;
  maps = held.maps;
  logs = held.logs;
  logs_handed = held.logs_handed;
  logs_returned = held.logs_returned;
  log_faults = held.log_faults;
  account = held.account;
}
