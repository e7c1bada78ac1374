use Rattle.tow_walks.proofs.Sendable.{walks_stay_sendable}
use Rattle.tow_walks.proofs.laws.walks_stay_sendable.Goals as goal

pub returns : goal.returns
returns c = walks_stay_sendable
