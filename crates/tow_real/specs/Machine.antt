-- What contracts see of the machine.
use Rattle.std.specs.Prelude.{ℕ, List, [], map, Option, None, is_some}
use Rattle.std.specs.Option.{option_map_or}
use Rattle.tow_model.specs.declared.account.Account.{Account}
use Rattle.tow_link.specs.Data.{SourceData, SinkData}
use Rattle.tow_link.specs.declared.joined.Joined.{Joined}
use Rattle.tow_folder.specs.Folders.{FolderData}
use Rattle.tow_host.specs.Held.{Held, no_source, no_sink, input_shown, output_shown}
use Rattle.tow_host.specs.Logs.{LogData}

-- It tells no content. One counter of faults stands for each text, one for each folder, and one of large patterns for each
-- pattern. No log is refused.
abbrev pub machine_held : {T I O F G : Type 0} → (T → SourceData) → (I → SourceData) → (O → SinkData) → (F → FolderData) → (G → LogData) → Option T → ℕ → ℕ → ℕ → Option (Joined I O) → ℕ → List F → ℕ → ℕ → ℕ → List G → ℕ → ℕ → Option Account → Held
machine_held text_shows input_shows output_shows folder_shows log_shows text handed returned faults streams larges folders folders_handed folders_returned folder_faults logs logs_handed logs_returned account = record {
  text = option_map_or text_shows text no_source;
  handed = handed;
  returned = returned;
  text_faults = record { named = []; others = faults };
  texts = None;
  is_home = is_some streams;
  input = option_map_or (input_shown input_shows) streams no_source;
  output = option_map_or (output_shown output_shows) streams no_sink;
  larges = λ pattern. larges;
  moments = None;
  folders = map folder_shows folders;
  folders_handed = folders_handed;
  folders_returned = folders_returned;
  folder_faults = record { named = []; others = folder_faults };
  maps = None;
  logs = map log_shows logs;
  logs_handed = logs_handed;
  logs_returned = logs_returned;
  log_faults = record { own = λ number. 0; shared = 0 };
  account = account;
}
