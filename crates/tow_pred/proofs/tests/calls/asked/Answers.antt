use Rattle.tow_pred.proofs.Trees.{among_asked}
use Rattle.tow_pred.proofs.tests.calls.asked.Goals as goal

pub holds-requires-clause-among : goal.holds-requires-clause-among
holds-requires-clause-among c = among_asked _ c.in-When.test _ _ (rw c.in-When.is at c.requires)
