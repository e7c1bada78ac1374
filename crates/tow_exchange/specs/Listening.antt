-- The place of a listener, taken before a limit is asked.
use Rattle.std.specs.Prelude.{◌≡◌, List, [], ◌∷◌, ◌++◌}
use Rattle.tow_model.specs.declared.record.Listener.{Listener}
use Rattle.tow_model.specs.declared.record.Listener.TheVariants.{Leave}
use Rattle.tow_exchange.specs.declared.phase.Phase.{Phase}
use Rattle.tow_exchange.specs.declared.phase.Phase.TheVariants.{AwaitsVerdict}

-- An exchange that waits for a verdict has its listeners ready for the case that it is admitted.
abbrev pub IsReady : Phase → List Listener → List Listener → Type 0
IsReady (AwaitsVerdict limit) listeners admitted = admitted ≡ listeners ++ Leave limit ∷ []
IsReady other listeners admitted = Unit {0}
