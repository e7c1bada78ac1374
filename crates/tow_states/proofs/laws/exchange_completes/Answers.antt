use Rattle.tow_states.proofs.Completions.{exchange_completes}
use Rattle.tow_states.proofs.laws.exchange_completes.Goals as goal

pub returns : goal.returns
returns c = exchange_completes
