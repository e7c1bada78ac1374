use Rattle.tow_advance.proofs.Plans.{opened_outcome}
use Rattle.tow_advance.proofs.laws.opened_outcome.Goals as goal

pub returns : goal.returns
returns c = opened_outcome
