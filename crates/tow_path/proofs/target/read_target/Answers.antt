use Rattle.tow_path.proofs.Places.{parts_are}
use Rattle.tow_path.proofs.target.read_target.Goals as goal

pub returns-clause-plain : goal.returns-clause-plain
returns-clause-plain c = parts_are c.args.method.now c.args.target.now c.target_of.result c.target_of.ensures
