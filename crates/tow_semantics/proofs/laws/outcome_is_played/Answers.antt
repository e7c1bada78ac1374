use Rattle.tow_semantics.proofs.Playing.{outcome_is_played}
use Rattle.tow_semantics.proofs.laws.outcome_is_played.Goals as goal

pub returns : goal.returns
returns c = outcome_is_played
