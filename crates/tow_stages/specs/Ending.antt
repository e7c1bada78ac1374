-- The beginning and the end of a connection, and what is true in between.
use Rattle.std.specs.Prelude.{◌≡◌, ℕ, Bool, true, false, List, []}
use Rattle.tow_model.specs.declared.account.End.{End}
use Rattle.tow_progress.specs.Progress.{Progress, Origin, opening}
use Rattle.tow_progress.specs.OnWire.{WritesFront}
use Rattle.tow_progress.specs.Accounts.{Tally, no_calls}
use Rattle.tow_progress.specs.Ended.{Seen, EndedUnder}
use Rattle.tow_states.specs.Known.{Setting, run_in}
use Rattle.tow_leads.specs.Ports.{IsPortOf, PortData}
use Rattle.tow_stages.specs.Stages.{Base, Stage, ended, reading}
use Rattle.tow_stages.specs.Holding.{Holds}

-- of it nothing was read, written, asked or told
abbrev pub new_base : ℕ → PortData → ℕ → Base
new_base k p room = record { number = k; begun = 0; port = p; calls = []; room = room; silent = false }

-- This is seen of a connection that has ended: its account, its bytes, the lines that it put, and whether its log has failed.
pub record IsSeenAt (failed : Bool) (b : Base) (end : End) (c : Progress) (t : Tally) (seen : Seen) : Type 0 where
  pub end_is : seen.account.end ≡ end
  pub exchanges : seen.account.exchanges ≡ b.begun
  pub calls : seen.account.calls ≡ b.calls
  pub written : seen.written ≡ c.written
  pub lines : seen.lines ≡ t.lines
  pub logged : seen.logged ≡ true → failed ≡ false

-- ---- laws

-- a new connection reads its first head
abbrev pub ConnectionBegins : Type 0
ConnectionBegins =
    (failed : Bool) (s : Setting) (k peer : ℕ) (input : List ℕ) (p : PortData) (room : ℕ)
    → IsPortOf p (opening k peer input)
    → Holds failed s (record { number = k; peer = peer; input = input }) (new_base k p room) reading (opening k peer input)
    (no_calls true)

-- in each stage a front of the wire was written
abbrev pub StagesWriteFronts : Type 0
StagesWriteFronts =
    (failed : Bool) (s : Setting) (o : Origin) (b : Base) (stage : Stage) (c : Progress) (t : Tally)
    → Holds failed s o b stage c t → WritesFront (run_in s) c

-- a connection that has ended has ended as it has to
abbrev pub EndsAreEnds : Type 0
EndsAreEnds =
    (failed : Bool) (s : Setting) (o : Origin) (b : Base) (end : End) (c : Progress) (t : Tally)
    → Holds failed s o b (ended end) c t → (seen : Seen) → IsSeenAt failed b end c t seen
    → EndedUnder s.tree s.files s.moments o.number o.peer o.input seen

-- a log that has failed says no more of the stage
abbrev pub FailuresLeadOn : Type 0
FailuresLeadOn =
    (failed : Bool) (s : Setting) (o : Origin) (b : Base) (stage : Stage) (c : Progress) (t : Tally)
    → Holds failed s o b stage c t → Holds true s o b stage c t
