-- One listener runs, or what follows the last one comes.
use Rattle.std.specs.Prelude.{◌≡◌, ◌⊎◌, ℕ, List, ◌∷◌, Option, Some, None}
use Rattle.tow_model.specs.declared.account.End.{End}
use Rattle.tow_model.specs.declared.account.End.TheVariants.{NoMemory}
use Rattle.tow_model.specs.declared.record.Listener.{Listener}
use Rattle.tow_model.specs.declared.record.Listener.TheVariants.{Log}
use Rattle.tow_closing.specs.Closings.{ClosingData}
use Rattle.tow_states.specs.Leaving.{left_in}
use Rattle.tow_stages.specs.Stages.{Base}
use Rattle.tow_turns.specs.declared.stage.Completing.{Completing}
use Rattle.tow_turns.specs.declared.stage.Stage.{Stage}
use Rattle.tow_turns.specs.declared.stage.Stage.TheVariants.{Closing, Ended, Reading}
use Rattle.tow_turns.specs.declared.stage.Then.{Then}
use Rattle.tow_turns.specs.declared.stage.Then.TheVariants.{On, Stop}
use Rattle.tow_turns.specs.declared.turn.Turn.TheVariants.{Release}

-- a line found no memory, or the end that follows is as it was
abbrev pub EndStays : Option End → Option End → Type 0
EndStays old new = (new ≡ old) ⊎ (new ≡ Some NoMemory)

-- the listener's line was told, or lost
abbrev pub IsTold : ClosingData → Option End → Stage → Type 0
IsTold d end (Closing c) = (c.closing ≡ d) × (c.owed ≡ None) × EndStays end c.end
IsTold d end other = ⊥

-- The next of these listeners was a log's, and the others are left; or a limit is to be left, and all are left that were.
abbrev pub HasRun : List Listener → Option End → Completing → Then → Type 0
HasRun left end c On = (c.owed ≡ None) × ((number : ℕ) × left ≡ Log number ∷ c.closing.completed.left) × EndStays end c.end
HasRun left end c (Stop (Release limit)) = (c.owed ≡ Some limit) × (left_in c.owed c.closing ≡ left) × (c.end ≡ end)
HasRun left end c other = ⊥

-- Listeners were left of which one ran, or none was left: then the next head is read, or the connection ends.
abbrev pub Runs : List Listener → Option End → Stage → Then → Type 0
Runs left end (Closing c) follows = HasRun left end c follows
Runs left end Reading follows = (end ≡ None) × (follows ≡ On)
Runs left end (Ended how) follows = (end ≡ Some how) × (follows ≡ On)
Runs left end other follows = ⊥

-- all but whether lines are put
abbrev pub KeepsBase : Base → Base → Type 0
KeepsBase old new = new ≡ record old { silent = new.silent }
