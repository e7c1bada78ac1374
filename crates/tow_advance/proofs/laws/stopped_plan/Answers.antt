use Rattle.tow_advance.proofs.Plans.{stopped_plan}
use Rattle.tow_advance.proofs.laws.stopped_plan.Goals as goal

pub returns : goal.returns
returns c = stopped_plan
