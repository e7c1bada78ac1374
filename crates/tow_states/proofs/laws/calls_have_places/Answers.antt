use Rattle.tow_states.proofs.Calls.{calls_have_places}
use Rattle.tow_states.proofs.laws.calls_have_places.Goals as goal

pub returns : goal.returns
returns c = calls_have_places
