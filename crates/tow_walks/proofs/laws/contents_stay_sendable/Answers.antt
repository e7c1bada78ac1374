use Rattle.tow_walks.proofs.Sendable.{contents_stay_sendable}
use Rattle.tow_walks.proofs.laws.contents_stay_sendable.Goals as goal

pub returns : goal.returns
returns c = contents_stay_sendable
