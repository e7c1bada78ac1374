use Rattle.tow_states.proofs.Closes.{closing_is_kept}
use Rattle.tow_states.proofs.laws.closing_is_kept.Goals as goal

pub returns : goal.returns
returns c = closing_is_kept
