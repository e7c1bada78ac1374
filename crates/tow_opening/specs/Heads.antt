-- What a step does with the next head.
use Rattle.std.specs.Prelude.{Bool}
use Rattle.tow_heads.specs.NextRequests.{GoesOnWith}
use Rattle.tow_heads.specs.declared.requests.NextRequest.{NextRequest}
use Rattle.tow_progress.specs.Progress.{Progress, Origin}
use Rattle.tow_progress.specs.Accounts.{Tally}
use Rattle.tow_states.specs.Known.{Setting}
use Rattle.tow_stages.specs.Stages.{Base, Stage, reading}
use Rattle.tow_stages.specs.Holding.{Holds}
use Rattle.tow_turns.specs.Steps.{Comes}

-- From each place to which it may have come, and at which its input goes on with this, the step leads to another one.
abbrev pub LeadsAt : NextRequest → Setting → (old new : Base) (after : Stage) → Type 0
LeadsAt next s old new after =
    (failed : Bool) (o : Origin) (c : Progress) (t : Tally) → Holds failed s o old reading c t
    → GoesOnWith c.peer old.port.input.items c.left next → Comes failed s o new after t.lines
