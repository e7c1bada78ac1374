use Rattle.tow_walks.proofs.Sendable.{verdicts_stay_sendable}
use Rattle.tow_walks.proofs.laws.verdicts_stay_sendable.Goals as goal

pub returns : goal.returns
returns c = verdicts_stay_sendable
