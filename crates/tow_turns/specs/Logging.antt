-- What a step of a connection leads to that may tell its log lines.
use Rattle.std.specs.Prelude.{◌≡◌, ◌⊎◌, ◌≤◌, ℕ, Bool, List, [], ◌++◌, All, Option, Some, None, option_map}
use Rattle.tow_model.specs.declared.account.Line.{Line}
use Rattle.tow_link.specs.Data.{Rose}
use Rattle.tow_faults.specs.Faults.{KeepsOtherFaults, faults_for}
use Rattle.tow_host.specs.Logs.{LogData}
use Rattle.tow_progress.specs.Progress.{Progress, Origin}
use Rattle.tow_progress.specs.Accounts.{Tally}
use Rattle.tow_states.specs.Known.{Setting}
use Rattle.tow_stages.specs.Stages.{Base, Stage}
use Rattle.tow_stages.specs.Holding.{Holds}

-- A log, if there is one, has gained just these lines at its end, where it tells.
abbrev pub Gains : List Line → Option LogData → Option LogData → Type 0
Gains added None None = added ≡ []
Gains added (Some old) (Some new) = new.lines ≡ option_map (λ (lines : List Line). lines ++ added) old.lines
Gains added None (Some new) = ⊥
Gains added (Some old) None = ⊥

-- it has failed for this connection
abbrev pub FailsFor : ℕ → Option LogData → Option LogData → Type 0
FailsFor k (Some old) (Some new) = Rose (faults_for old.faults k) (faults_for new.faults k)
FailsFor k None other = ⊥
FailsFor k (Some old) None = ⊥

-- its counts did not fall, and those of other connections are as they were
abbrev pub KeepsFaults : ℕ → Option LogData → Option LogData → Type 0
KeepsFaults k None None = Unit {0}
KeepsFaults k (Some old) (Some new) =
    (faults_for old.faults k ≤ faults_for new.faults k) × KeepsOtherFaults old.faults new.faults k
KeepsFaults k None (Some new) = ⊥
KeepsFaults k (Some old) None = ⊥

-- Where it has come to after a step that may have told its log lines.
pub record Tells (failed : Bool) (s : Setting) (o : Origin) (old new : Option LogData) (b : Base) (stage : Stage)
    (lines : List Line) : Type 0 where
  pub progress : Progress
  pub tally : Tally
  -- whether its log has failed for it by now: only if it had before, or fails now
  pub fails : Bool
  pub failed_so : (fails ≡ failed) ⊎ FailsFor b.number old new
  pub holds : Holds fails s o b stage progress tally
  -- the lines that were told, which are its own
  pub added : List Line
  pub own : All (λ (line : Line). line.connection ≡ b.number) added
  pub stored : tally.lines ≡ lines ++ added
  pub gains : Gains added old new

-- From each place to which it may have come, the step leads to another one.
abbrev pub LeadsTelling : (log log' : Option LogData) → Setting → (b b' : Base) (before after : Stage) → Type 0
LeadsTelling log log' s b b' before after =
    (failed : Bool) (o : Origin) (c : Progress) (t : Tally) → Holds failed s o b before c t
    → Tells failed s o log log' b' after t.lines
