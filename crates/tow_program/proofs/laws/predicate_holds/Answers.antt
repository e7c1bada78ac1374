use Rattle.tow_program.proofs.Asking.{predicate_holds}
use Rattle.tow_program.proofs.laws.predicate_holds.Goals as goal

pub returns : goal.returns
returns c = predicate_holds
