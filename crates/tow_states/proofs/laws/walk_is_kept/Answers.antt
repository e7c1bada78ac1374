use Rattle.tow_states.proofs.Walks.{walk_is_kept}
use Rattle.tow_states.proofs.laws.walk_is_kept.Goals as goal

pub returns : goal.returns
returns c = walk_is_kept
