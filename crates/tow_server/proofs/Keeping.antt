-- Where no folder, no log and no account is handed back, what a host holds of these stays.
use Rattle.std.proofs.Common.{◌≡◌, [], None, map}
use Rattle.std.specs.Prelude.{◌||◌, if◌then◌else◌, is_some}
use Rattle.std.specs.Option.{option_map_or, option_or}
use Rattle.tow_link.specs.Data.{SourceData, SinkData, raised}
use Rattle.tow_link.specs.declared.joined.Joined.{Joined}
use Rattle.tow_folder.specs.Folders.{FolderData}
use Rattle.tow_host.specs.Held.{Held, input_shown, output_shown, parts_counted, parts_held, with_kept}
use Rattle.tow_host.specs.Logs.{LogData}
use Rattle.tow_host.specs.declared.kept.Kept.{Kept}
use Rattle.tow_server.specs.Returned.{with_parts}

pub nothing_more : {T I O F G : Type 0} (text_shows : T → SourceData) (input_shows : I → SourceData) (output_shows : O → SinkData) (folder_shows : F → FolderData) (log_shows : G → LogData) (kept : Kept T (Joined I O) F G) (old : Held)
    → kept.folders.items ≡ [] → kept.logs.items ≡ [] → kept.account ≡ None
    → with_kept text_shows input_shows output_shows folder_shows log_shows kept old ≡ with_parts text_shows input_shows output_shows kept.text kept.streams old
nothing_more text_shows input_shows output_shows folder_shows log_shows kept old folders logs account =
    λ i. record old {
      text = option_map_or text_shows kept.text old.text;
      returned = if is_some kept.text then raised old.returned else old.returned;
      is_home = is_some kept.streams || old.is_home;
      input = option_map_or (input_shown input_shows) kept.streams old.input;
      output = option_map_or (output_shown output_shows) kept.streams old.output;
      folders = parts_held (map folder_shows (folders i)) old.folders;
      folders_returned = parts_counted (folders i) old.folders_returned;
      logs = parts_held (map log_shows (logs i)) old.logs;
      logs_returned = parts_counted (logs i) old.logs_returned;
      account = option_or (account i) old.account;
    }
