-- When a connection may be cut.
use Rattle.std.specs.Prelude.{◌≢◌, ◌<◌}
use Rattle.tow_model.specs.Dates.{first_undated}
use Rattle.tow_exchange.specs.declared.phase.Phase.TheVariants.{Stopped}
use Rattle.tow_stages.specs.Stages.{Stage, answering, closing, ended, gathering, reading, refusing, walking}

-- an exchange has a moment that a date can show, and goes on to its answer as soon as it has stopped
abbrev pub MayBeCut : Stage → Type 0
MayBeCut reading = Unit {0}
MayBeCut (refusing left) = Unit {0}
MayBeCut (walking e) = (e.moment < first_undated) × (e.phase ≢ Stopped)
MayBeCut (gathering e g to_tell) = e.moment < first_undated
MayBeCut (answering d pieces closes drain) = Unit {0}
MayBeCut (closing d owed end) = Unit {0}
MayBeCut (ended end) = Unit {0}

-- neither do its listeners run, nor has it ended
abbrev pub IsLive : Stage → Type 0
IsLive (closing d owed end) = ⊥
IsLive (ended end) = ⊥
IsLive other = Unit {0}
