use Rattle.tow_walks.proofs.Sendable.{opened_is_sendable}
use Rattle.tow_walks.proofs.laws.opened_is_sendable.Goals as goal

pub returns : goal.returns
returns c = opened_is_sendable
