use Rattle.tow_states.proofs.Walks.{exchange_opens}
use Rattle.tow_states.proofs.laws.exchange_opens.Goals as goal

pub returns : goal.returns
returns c = exchange_opens
