use Rattle.std.proofs.Common.{refl}
use Rattle.tow_pred.proofs.building.build_one.Goals as goal

pub returns-in-Large-clause-only : goal.returns-in-Large-clause-only
returns-in-Large-clause-only g c other = absurd (other c.args.found.number refl)
