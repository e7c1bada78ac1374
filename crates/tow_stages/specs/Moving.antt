-- The link is read, and written: the stage stays.
use Rattle.std.specs.Prelude.{Bool}
use Rattle.tow_progress.specs.Progress.{Progress, Origin}
use Rattle.tow_progress.specs.Steps.{read_in, written_out}
use Rattle.tow_progress.specs.Accounts.{Tally}
use Rattle.tow_states.specs.Known.{Setting}
use Rattle.tow_leads.specs.Ports.{IsRead, IsWritten, PortData}
use Rattle.tow_stages.specs.Stages.{Base, Stage, answering, closing, ended, gathering, reading}
use Rattle.tow_stages.specs.Holding.{Holds}

-- nothing is written once the listeners run, or the connection has ended
abbrev pub IsWriting : Stage → Type 0
IsWriting (closing d owed end) = ⊥
IsWriting (ended end) = ⊥
IsWriting other = Unit {0}

-- the link is read for a head, or for a content
abbrev pub IsTaking : Stage → Type 0
IsTaking reading = Unit {0}
IsTaking (gathering e g to_tell) = Unit {0}
IsTaking (answering d pieces closes drain) = Unit {0}
IsTaking other = ⊥

-- with another port
abbrev pub over : PortData → Base → Base
over p b = record b { port = p }

-- ---- laws

abbrev pub WritesLeadOn : Type 0
WritesLeadOn =
    (failed : Bool) (s : Setting) (o : Origin) (b : Base) (stage : Stage) (c : Progress) (t : Tally)
    → Holds failed s o b stage c t → IsWriting stage → (p : PortData) → (w : IsWritten p c)
    → Holds failed s o (over p b) stage (written_out w.bytes w.piped c) t

abbrev pub ReadsLeadOn : Type 0
ReadsLeadOn =
    (failed : Bool) (s : Setting) (o : Origin) (b : Base) (stage : Stage) (c : Progress) (t : Tally)
    → Holds failed s o b stage c t → IsTaking stage → (p : PortData) → (r : IsRead p c)
    → Holds failed s o (over p b) stage (read_in r.bytes r.left c) t
