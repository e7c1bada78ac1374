-- What contracts see of a host: one record of plain data.
use Rattle.std.specs.Prelude.{◌≡◌, ℕ, ◌+◌, ◌-◌, ◌^◌, ◌||◌, min, Bool, false, List, [], ◌∷◌, map, length, Option, None, IfSome, if◌then◌else◌, is_some}
use Rattle.std.specs.Option.{option_map_or, option_or}
use Rattle.tow_model.specs.declared.account.Account.{Account}
use Rattle.tow_link.specs.Data.{SourceData, SinkData, raised}
use Rattle.tow_link.specs.Counts.{Counts}
use Rattle.tow_link.specs.declared.joined.Joined.{Joined}
use Rattle.tow_faults.specs.Faults.{NumberedFaults, faults_for}
use Rattle.tow_semantics.specs.Files.{Files}
use Rattle.tow_folder.specs.Folders.{FolderData}
use Rattle.tow_host.specs.Logs.{LogData}
use Rattle.tow_host.specs.declared.kept.Kept.{Kept}

-- Of texts: what the source that was handed back last shows, how many sources were handed out, how many back, how often
-- a text could not be had, by its name, and, where the host tells, each text under its name. Of the streams: whether the host
-- has them, and what they then show; while they are lent, nothing is said of their data. Then how often each pattern was
-- refused as too large, and, where the host tells, the second of each request by its clocks. Of folders: what those that were
-- handed back last show, how many were handed out, how many back, how often a folder could not be had, by its name, and, where the
-- host tells, the files of each under its name. Of logs: what those that were
-- handed back last show, in the order of their numbers, how many logs were handed out, how many back, and how often a log could
-- not be had, by its number. Then the account of connection 0, where it was handed back.
pub record Held : Type 0 where
  pub text : SourceData
  pub handed : ℕ
  pub returned : ℕ
  pub text_faults : Counts
  pub texts : Option (List (List ℕ × List ℕ))
  pub is_home : Bool
  pub input : SourceData
  pub output : SinkData
  pub larges : List ℕ → ℕ
  pub moments : Option (ℕ → ℕ → ℕ)
  pub folders : List FolderData
  pub folders_handed : ℕ
  pub folders_returned : ℕ
  pub folder_faults : Counts
  pub maps : Option (List (List ℕ × Files))
  pub logs : List LogData
  pub logs_handed : ℕ
  pub logs_returned : ℕ
  pub log_faults : NumberedFaults
  pub account : Option Account

-- a source that was just handed out: it has not failed, and nothing was read of it
pub record IsFresh (source : SourceData) : Type 0 where
  pub faults : source.faults ≡ 0
  pub unread : IfSome source.told (λ told. told.read ≡ [])

-- a folder that was just handed out: it has failed for no connection
pub record IsNewFolder (folder : FolderData) : Type 0 where
  pub faults : (k : ℕ) → faults_for folder.faults k ≡ 0

-- a log that was just handed out: it has failed for no connection, and has no lines
pub record IsNewLog (log : LogData) : Type 0 where
  pub faults : (k : ℕ) → faults_for log.faults k ≡ 0
  pub lines : IfSome log.lines (λ lines. lines ≡ [])

-- A text was asked for: where a source of it was handed out, that is counted, and the counts of texts that could not be had
-- may have changed.
abbrev pub AsksText : Bool → Held → Held → Type 0
AsksText is_there old new = new ≡ record old {
  handed = if is_there then raised old.handed else old.handed;
  text_faults = new.text_faults;
}

-- A folder was asked for: where one was handed out, that is counted, and the counts of folders that could not be had may have
-- changed.
abbrev pub AsksFolder : Bool → Held → Held → Type 0
AsksFolder is_there old new = new ≡ record old {
  folders_handed = if is_there then raised old.folders_handed else old.folders_handed;
  folder_faults = new.folder_faults;
}

-- A log was asked for: where one was handed out, that is counted, and the counts of logs that could not be had may have
-- changed.
abbrev pub AsksLog : Bool → Held → Held → Type 0
AsksLog is_there old new = new ≡ record old {
  logs_handed = if is_there then raised old.logs_handed else old.logs_handed;
  log_faults = new.log_faults;
}

-- the streams were lent
abbrev pub Lends : Held → Held → Type 0
Lends old new = new ≡ record old { is_home = false; input = new.input; output = new.output }

-- a text source was handed back, which shows this
abbrev pub with_text : SourceData → Held → Held
with_text source old = record old { text = source; returned = raised old.returned }

-- the data of a part that is not there
abbrev pub no_source : SourceData
no_source = record { faults = 0; told = None }

abbrev pub no_sink : SinkData
no_sink = record { faults = 0; written = None }

-- what the parts of joined streams show
abbrev pub input_shown : {I O : Type 0} → (I → SourceData) → Joined I O → SourceData
input_shown shows streams = shows streams.input

abbrev pub output_shown : {I O : Type 0} → (O → SinkData) → Joined I O → SinkData
output_shown shows streams = shows streams.output

-- what is held of folders or of logs after these were handed back: these, if there are any
abbrev pub parts_held : {A : Type 0} → List A → List A → List A
parts_held [] old = old
parts_held (part ∷ rest) old = part ∷ rest

-- how many folders or logs were handed back, after these
abbrev pub parts_counted : {P : Type 0} → List P → ℕ → ℕ
parts_counted [] count = count
parts_counted (part ∷ rest) count = min (count + length (part ∷ rest)) (2 ^ 64 - 1)

-- what parts were handed back: each that is there is held from then on, as what it shows
abbrev pub with_kept : {T I O F G : Type 0} → (T → SourceData) → (I → SourceData) → (O → SinkData) → (F → FolderData) → (G → LogData) → Kept T (Joined I O) F G → Held → Held
with_kept text_shows input_shows output_shows folder_shows log_shows kept old = record old {
  text = option_map_or text_shows kept.text old.text;
  returned = if is_some kept.text then raised old.returned else old.returned;
  is_home = is_some kept.streams || old.is_home;
  input = option_map_or (input_shown input_shows) kept.streams old.input;
  output = option_map_or (output_shown output_shows) kept.streams old.output;
  folders = parts_held (map folder_shows kept.folders.items) old.folders;
  folders_returned = parts_counted kept.folders.items old.folders_returned;
  logs = parts_held (map log_shows kept.logs.items) old.logs;
  logs_returned = parts_counted kept.logs.items old.logs_returned;
  account = option_or kept.account old.account;
}
