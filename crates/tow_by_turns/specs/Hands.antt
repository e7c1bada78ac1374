-- What a thread works with, and what it keeps.
use Rattle.std.specs.Prelude.{◌≡◌, ℕ, Option, Some, None, option_map}
use Rattle.tow_model.specs.declared.account.Role.{Role}
use Rattle.tow_model.specs.declared.account.Role.TheVariants.{Loop, Main, Worker}
use Rattle.tow_folder.specs.Folders.{FolderData}
use Rattle.tow_host.specs.Logs.{LogData}
use Rattle.tow_walks.specs.Folders.{FolderStays}
use Rattle.tow_states.specs.Known.{Setting}
use Rattle.tow_turns.specs.Folders.{IsFolderOf}
use Rattle.tow_turns.specs.Logging.{KeepsFaults}
use Rattle.tow_turns.specs.Roles.{IsLoop}
use Rattle.tow_by_turns.specs.declared.hands.Hands.{Hands}

-- an I/O loop has a clock and a log, a worker a folder, and nobody else takes a turn
abbrev pub IsEquipped : {F C G : Type 0} → Role → Option F → Option C → Option G → Type 0
IsEquipped (Loop i) folder (Some clock) (Some log) = Unit {0}
IsEquipped (Loop i) folder (Some clock) None = ⊥
IsEquipped (Loop i) folder None log = ⊥
IsEquipped (Worker i) (Some folder) clock log = Unit {0}
IsEquipped (Worker i) None clock log = ⊥
IsEquipped Main folder clock log = ⊥

-- what contracts see of a log, if there is one
abbrev pub log_of : {G : Type 0} → (G → LogData) → Option G → Option LogData
log_of shows log = option_map shows log

-- a clock that is there tells just these moments
abbrev pub IsClockIn : {C : Type 0} → (C → Option (ℕ → ℕ → ℕ)) → Option C → (ℕ → ℕ → ℕ) → Type 0
IsClockIn table None moments = Unit {0}
IsClockIn table (Some clock) moments = table clock ≡ Some moments

-- The site, and where they tell the folder and the clock, are those of the setting.
pub record Serves {F C G : Type 0} (folders : F → FolderData) (table : C → Option (ℕ → ℕ → ℕ)) (s : Setting) (hands : Hands F C G)
    : Type 0 where
  pub tree : hands.site.now.tree ≡ s.tree
  pub files : IsFolderOf folders hands.folder s.files
  pub moments : IsClockIn table hands.clock s.moments

-- the clock tells what it told
abbrev pub ClockStays : {C : Type 0} → (C → Option (ℕ → ℕ → ℕ)) → Option C → Option C → Type 0
ClockStays table None None = Unit {0}
ClockStays table (Some old) (Some new) = table new ≡ table old
ClockStays table None (Some new) = ⊥
ClockStays table (Some old) None = ⊥

-- What a role leaves of them, where it served connection k: an I/O loop asks no folder.
pub record KeepsHands {F C G : Type 0} (folders : F → FolderData) (table : C → Option (ℕ → ℕ → ℕ)) (logs : G → LogData) (role : Role)
    (k : ℕ) (old new : Hands F C G) : Type 0 where
  pub site : new.site.now ≡ old.site.now
  pub scratch : new.scratch ≡ old.scratch
  pub folder : FolderStays folders k old.folder new.folder
  pub idle : IsLoop role → new.folder ≡ old.folder
  pub clock : ClockStays table old.clock new.clock
  pub log : KeepsFaults k (log_of logs old.log) (log_of logs new.log)
