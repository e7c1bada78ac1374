-- What a turn needs before it takes another step.
use Rattle.std.specs.Prelude.{◌≡◌, ◌⊎◌, ◌<◌, ℕ, Bool, true, false, List, [], length, Option, Some, None}
use Rattle.tow_model.specs.declared.account.Role.{Role}
use Rattle.tow_model.specs.declared.account.Role.TheVariants.{Loop}
use Rattle.tow_model.specs.declared.account.End.{End}
use Rattle.tow_model.specs.declared.statement.Statement.{Statement}
use Rattle.tow_semantics.specs.Files.{Files}
use Rattle.tow_stages.specs.Stages.{Base, Stage}
use Rattle.tow_turns.specs.Cuts.{IsLive}
use Rattle.tow_turns.specs.Nexts.{IsNext, IsOver, IsOwnEnd, KeepsLink, ReadsLink, end_in}
use Rattle.tow_turns.specs.Roles.{IsLoop}
use Rattle.tow_turns.specs.Safe.{IsSafe}
use Rattle.tow_turns.specs.declared.stage.Then.{Then}
use Rattle.tow_turns.specs.declared.stage.Then.TheVariants as thens
use Rattle.tow_turns.specs.declared.turn.Turn.TheVariants.{AskLimit, Ended, Idle, Release, Spent, ToLoop, ToPool}
use Rattle.tow_by_turns.specs.declared.need.Need.{Need}
use Rattle.tow_by_turns.specs.declared.need.Need.TheVariants.{Read, Stop, Write}

-- what is needed after a step; the link is an I/O loop's
abbrev pub need_after : Role → Then → Option Need
need_after role thens.On = None
need_after role (thens.Stop turn) = Some (Stop turn)
need_after (Loop i) thens.Read = Some Read
need_after (Loop i) thens.Write = Some Write
need_after other thens.Read = Some (Stop ToLoop)
need_after other thens.Write = Some (Stop ToLoop)

-- what a connection that has ended says; an I/O loop is to hear it
abbrev pub end_told : Role → End → Then
end_told (Loop i) end = thens.Stop (Ended end)
end_told other end = thens.Stop ToLoop

-- an I/O loop writes all that was put before it takes a step
abbrev pub IsWrittenFor : Role → Base → Stage → Type 0
IsWrittenFor role b stage = IsLoop role → IsLive stage → b.port.output.items ≡ []

-- what is needed, and why
abbrev pub IsNeed : Role → Bool → Base → Stage → Need → Type 0
IsNeed role spent b stage (Stop Spent) = IsLoop role × (spent ≡ true) × IsLive stage
IsNeed role spent b stage (Stop Idle) = ⊥
IsNeed role spent b stage (Stop (AskLimit limit)) = IsNext role b stage (thens.Stop (AskLimit limit))
IsNeed role spent b stage (Stop (Release limit)) = IsNext role b stage (thens.Stop (Release limit))
IsNeed role spent b stage (Stop ToPool) = IsNext role b stage (thens.Stop ToPool)
IsNeed role spent b stage (Stop ToLoop) = IsNext role b stage (thens.Stop ToLoop)
IsNeed role spent b stage (Stop (Ended end)) = IsNext role b stage (thens.Stop (Ended end))
IsNeed role spent b stage Read = IsLoop role × (spent ≡ false) × ReadsLink b stage × (b.port.output.items ≡ [])
IsNeed role spent b stage Write = IsLoop role × (spent ≡ false) × IsLive stage × (0 < length b.port.output.items)

-- what is needed before a step, if anything
abbrev pub IsFirst : Role → Bool → Base → Stage → Option Need → Type 0
IsFirst role spent b stage None = IsWrittenFor role b stage × (IsLoop role → IsLive stage → spent ≡ false)
IsFirst role spent b stage (Some need) = IsNeed role spent b stage need

-- Steps that do not touch the link.
pub record Goes (role : Role) (spent : Bool) (tree : List Statement) (told : Option Files) (faults faults' : ℕ) (old new : Base)
    (before after : Stage) (need : Need) : Type 0 where
  pub safe : IsSafe tree told new after
  pub needs : IsNeed role spent new after need
  pub keeps : KeepsLink old new
  pub stays_over : IsOver before → IsOver after
  pub ends_so : (end : End) → end_in after ≡ Some end → (end_in before ≡ Some end) ⊎ IsOwnEnd faults faults' end
