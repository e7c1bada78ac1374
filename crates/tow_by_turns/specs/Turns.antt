-- A turn of a connection: what it answers, and what it keeps.
use Rattle.std.specs.Prelude.{◌≡◌, ◌⊎◌, ◌<◌, ◌≤◌, ◌+◌, ◌-◌, ◌*◌, ℕ, List, [], length, if◌then◌else◌, Option, Some, None}
use Rattle.std.specs.Global.{Vec}
use Rattle.std.specs.Vec.{vec_capacity}
use Rattle.tow_model.specs.declared.account.Role.{Role}
use Rattle.tow_model.specs.declared.account.End.{End}
use Rattle.tow_model.specs.declared.account.End.TheVariants as ends
use Rattle.tow_model.specs.declared.statement.Statement.{Statement}
use Rattle.tow_semantics.specs.Files.{Files}
use Rattle.tow_link.specs.Data.{Rose}
use Rattle.tow_peer.specs.Links.{LinkData, NeverFall}
use Rattle.tow_stages.specs.Stages.{Base, Stage, closing, ended}
use Rattle.tow_turns.specs.Cuts.{IsLive}
use Rattle.tow_turns.specs.Nexts.{IsNext, ReadsLink, end_in}
use Rattle.tow_turns.specs.Roles.{IsLoop}
use Rattle.tow_turns.specs.Safe.{IsSafe}
use Rattle.tow_turns.specs.declared.stage.Then.TheVariants as thens
use Rattle.tow_turns.specs.declared.turn.Turn.{Turn}
use Rattle.tow_turns.specs.declared.turn.Turn.TheVariants.{AskLimit, Ended, Idle, Release, Spent, ToLoop, ToPool}
use Rattle.tow_by_turns.specs.declared.linking.TheConstants.{TURN_LEN}

-- ---- what a turn answers

-- a write stalled in this turn, and bytes are still to be written
abbrev pub StallsWriting : LinkData → Base → Stage → Type 0
StallsWriting old b stage = Rose old.write_stalls b.port.link.write_stalls × (0 < length b.port.output.items) × IsLive stage

-- a read stalled in this turn, nothing is to be written, and the link is to be read
abbrev pub StallsReading : LinkData → Base → Stage → Type 0
StallsReading old b stage = Rose old.read_stalls b.port.link.read_stalls × (b.port.output.items ≡ []) × ReadsLink b stage

-- what each answer says of the connection after the turn, which began with the link so
abbrev pub IsAnswer : Role → LinkData → Base → Stage → Turn → Type 0
IsAnswer role old b stage Idle = IsLoop role × (StallsWriting old b stage ⊎ StallsReading old b stage)
IsAnswer role old b stage Spent = IsLoop role × IsLive stage
IsAnswer role old b stage (AskLimit limit) = IsNext role b stage (thens.Stop (AskLimit limit))
IsAnswer role old b stage (Release limit) = IsNext role b stage (thens.Stop (Release limit))
IsAnswer role old b stage ToPool = IsNext role b stage (thens.Stop ToPool)
IsAnswer role old b stage ToLoop = IsNext role b stage (thens.Stop ToLoop)
IsAnswer role old b stage (Ended end) = IsNext role b stage (thens.Stop (Ended end))

-- nothing, if the turn goes on
abbrev pub IsAnswerIf : Role → LinkData → Base → Stage → Option Turn → Type 0
IsAnswerIf role old b stage None = Unit {0}
IsAnswerIf role old b stage (Some turn) = IsAnswer role old b stage turn

-- ---- how it ends

-- A turn may come to this end by itself: to a fault only if the count of the link, or of the folder for it, rose.
abbrev pub IsTurnEnd : (link link' : LinkData) → (faults faults' : ℕ) → End → Type 0
IsTurnEnd link link' faults faults' ends.Done = Unit {0}
IsTurnEnd link link' faults faults' ends.LinkFault = Rose link.faults link'.faults
IsTurnEnd link link' faults faults' ends.FolderFault = Rose faults faults'
IsTurnEnd link link' faults faults' ends.NoMemory = Unit {0}

abbrev pub EndsSo : (link link' : LinkData) → (faults faults' : ℕ) → (before after : Stage) → Type 0
EndsSo link link' faults faults' before after =
    (end : End) → end_in after ≡ Some end → (end_in before ≡ Some end) ⊎ IsTurnEnd link link' faults faults' end

-- ---- what it keeps

-- Who held it stays; places for hops are only added, and three are there when it goes to the pool.
pub record KeepsHops (old new : Vec Role) (answer : Option Turn) : Type 0 where
  pub items : new.items ≡ old.items
  pub places : vec_capacity old ≤ vec_capacity new
  pub pooled : answer ≡ Some ToPool → length new.items + 3 ≤ vec_capacity new

-- ---- what gets smaller

-- listeners may be left to run, and nothing else
abbrev pub live_rank : Stage → ℕ
live_rank (closing d owed (Some end)) = 0
live_rank (ended end) = 0
live_rank other = 1

-- the bytes that the turn may still move, whether the link has ended, and whether the connection is to end
abbrev pub turn_left : (len moved : ℕ) → Base → Stage → ℕ
turn_left len moved b stage = 4 * (len - moved) + (if b.port.ended then 0 else 2) + live_rank stage

-- ---- all of it

-- What a round does under a text, where the folder tells these files and has failed so often for it: steps, and then a call of the link
-- if that is needed. Nothing is answered if the turn goes on; so many bytes were moved.
pub record RoundFits (role : Role) (tree : List Statement) (told : Option Files) (faults faults' : ℕ) (old new : Base)
    (before after : Stage) (moved moved' : ℕ) (answer : Option Turn) : Type 0 where
  pub safe : IsSafe tree told new after
  pub answers : IsAnswerIf role old.port.link new after answer
  pub nearer : answer ≡ None → turn_left TURN_LEN moved' new after < turn_left TURN_LEN moved old before
  pub number : new.number ≡ old.number
  pub later : NeverFall old.port.link new.port.link
  pub ends_so : EndsSo old.port.link new.port.link faults faults' before after

-- What a turn does.
pub record TurnFits (role : Role) (tree : List Statement) (told : Option Files) (faults faults' : ℕ) (old new : Base)
    (before after : Stage) (answer : Turn) : Type 0 where
  pub safe : IsSafe tree told new after
  pub answers : IsAnswer role old.port.link new after answer
  pub number : new.number ≡ old.number
  pub later : NeverFall old.port.link new.port.link
  pub ends_so : EndsSo old.port.link new.port.link faults faults' before after
