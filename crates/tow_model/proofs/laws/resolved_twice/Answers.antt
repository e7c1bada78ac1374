use Rattle.tow_model.proofs.Resolving.{resolved_twice}
use Rattle.tow_model.proofs.laws.resolved_twice.Goals as goal

pub returns : goal.returns
returns c = resolved_twice
