-- What follows a step, and what each step does whatever the link tells.
use Rattle.std.specs.Prelude.{◌≡◌, ◌≢◌, ◌⊎◌, ◌<◌, ℕ, ◌+◌, ◌*◌, true, false, List, [], ◌∷◌, length, Option, Some, None}
use Rattle.tow_model.specs.declared.account.Role.{Role}
use Rattle.tow_model.specs.declared.account.End.{End}
use Rattle.tow_model.specs.declared.account.End.TheVariants as ends
use Rattle.tow_model.specs.declared.statement.Statement.{Statement}
use Rattle.tow_semantics.specs.Files.{Files}
use Rattle.tow_wire.specs.Answers.{continue_text}
use Rattle.tow_exchange.specs.declared.phase.Phase.TheVariants.{AwaitsVerdict, Stopped}
use Rattle.tow_link.specs.Data.{Rose}
use Rattle.tow_port.specs.Ports.{room_of}
use Rattle.tow_sending.specs.Pieces.{Part, size_of}
use Rattle.tow_stages.specs.Stages.{Base, Stage, answering, closing, ended, gathering, reading, refusing, walking}
use Rattle.tow_turns.specs.Cuts.{IsLive}
use Rattle.tow_turns.specs.Roles.{IsLoop}
use Rattle.tow_turns.specs.Safe.{IsSafe}
use Rattle.tow_turns.specs.declared.stage.Then.{Then}
use Rattle.tow_turns.specs.declared.stage.Then.TheVariants as thens
use Rattle.tow_turns.specs.declared.turn.Turn.TheVariants as turns

-- ---- what a stage waits for

-- a limit is to be entered
abbrev pub AsksLimit : ℕ → Stage → Type 0
AsksLimit limit (walking e) = e.phase ≡ AwaitsVerdict limit
AsksLimit limit other = ⊥

-- a limit is to be left
abbrev pub OwesLimit : ℕ → Stage → Type 0
OwesLimit limit (closing d owed end) = owed ≡ Some limit
OwesLimit limit other = ⊥

-- a walk that has not stopped goes on, or the next piece is a file's
abbrev pub IsForWorker : Stage → Type 0
IsForWorker (walking e) = e.phase ≢ Stopped
IsForWorker (answering d (Part path at len ∷ rest) closes drain) = Unit {0}
IsForWorker other = ⊥

-- The next step is an I/O loop's: the link is to be read or written, listeners are to run, or the connection ends. The next piece
-- is put only where there is room for it.
abbrev pub IsForLoop : Base → Stage → Type 0
IsForLoop b reading = Unit {0}
IsForLoop b (refusing left) = 0 < length b.port.output.items
IsForLoop b (walking e) = ⊥
IsForLoop b (gathering e g true) = room_of b.port.output < length continue_text
IsForLoop b (gathering e g false) = b.port.input.items ≡ []
IsForLoop b (answering d [] closes drain) = Unit {0}
IsForLoop b (answering d (p ∷ rest) closes drain) = room_of b.port.output < size_of p
IsForLoop b (closing d owed end) = Unit {0}
IsForLoop b (ended end) = Unit {0}

-- there is room to read the link, which has not ended
abbrev pub CanRead : Base → Type 0
CanRead b = (0 < room_of b.port.input) × (b.port.ended ≡ false)

-- the link is to be read, for a head or a content
abbrev pub ReadsLink : Base → Stage → Type 0
ReadsLink b reading = CanRead b
ReadsLink b (gathering e g false) = CanRead b
ReadsLink b (answering d [] closes (Some drain)) = CanRead b
ReadsLink b other = ⊥

-- ---- what is told

abbrev pub IsNext : Role → Base → Stage → Then → Type 0
IsNext role b stage thens.On = Unit {0}
IsNext role b stage (thens.Stop turns.Idle) = ⊥
IsNext role b stage (thens.Stop turns.Spent) = ⊥
IsNext role b stage (thens.Stop (turns.AskLimit limit)) = AsksLimit limit stage
IsNext role b stage (thens.Stop (turns.Release limit)) = IsLoop role × OwesLimit limit stage
IsNext role b stage (thens.Stop turns.ToPool) = IsLoop role × IsForWorker stage
IsNext role b stage (thens.Stop turns.ToLoop) = (IsLoop role → ⊥) × IsForLoop b stage
IsNext role b stage (thens.Stop (turns.Ended end)) = IsLoop role × (stage ≡ ended end)
IsNext role b stage thens.Read = ((IsLoop role → ⊥) → IsForLoop b stage) × ReadsLink b stage
IsNext role b stage thens.Write = ((IsLoop role → ⊥) → IsForLoop b stage) × (0 < length b.port.output.items) × IsLive stage

-- ---- what gets smaller

-- how far the stages of an exchange are from its end
abbrev pub rank : Stage → ℕ
rank (walking e) = 7
rank (gathering e g true) = 6
rank (gathering e g false) = 5
rank (answering d pieces closes drain) = 4
rank (closing d owed end) = 3
rank reading = 2
rank (refusing left) = 1
rank (ended end) = 0

-- a head takes bytes
abbrev pub weight : Base → Stage → ℕ
weight b stage = 8 * length b.port.input.items + rank stage

-- ---- how a connection ends

-- the end that a connection keeps, or has come to
abbrev pub end_in : Stage → Option End
end_in (closing d owed end) = end
end_in (ended end) = Some end
end_in other = None

-- only listeners are left to run, if anything
abbrev pub IsOver : Stage → Type 0
IsOver (closing d owed (Some end)) = Unit {0}
IsOver (ended end) = Unit {0}
IsOver other = ⊥

-- A step may come to this end by itself: to a folder's fault only if the count of those rose.
abbrev pub IsOwnEnd : (faults faults' : ℕ) → End → Type 0
IsOwnEnd faults faults' ends.Done = Unit {0}
IsOwnEnd faults faults' ends.LinkFault = ⊥
IsOwnEnd faults faults' ends.FolderFault = Rose faults faults'
IsOwnEnd faults faults' ends.NoMemory = Unit {0}

-- ---- all of it

-- the link is as it was
pub record KeepsLink (old new : Base) : Type 0 where
  pub link : new.port.link ≡ old.port.link
  pub ended_so : new.port.ended ≡ old.port.ended
  pub number : new.number ≡ old.number

-- A step under a text that does not touch the link. The folder tells these files, and has failed so often for the connection.
pub record StepFits (role : Role) (tree : List Statement) (told : Option Files) (faults faults' : ℕ) (old new : Base)
    (before after : Stage) (follows : Then) : Type 0 where
  pub safe : IsSafe tree told new after
  pub next : IsNext role new after follows
  pub nearer : follows ≡ thens.On → weight new after < weight old before
  pub keeps : KeepsLink old new
  pub waits : follows ≡ thens.Read → new.port.output ≡ old.port.output
  -- while listeners run, and once it has ended, the link is not needed
  pub links : (follows ≡ thens.Read) ⊎ (follows ≡ thens.Write) → IsLive before
  pub stays_over : IsOver before → IsOver after
  pub ends_so : (end : End) → end_in after ≡ Some end → (end_in before ≡ Some end) ⊎ IsOwnEnd faults faults' end
