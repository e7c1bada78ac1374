use Rattle.tow_advance.proofs.Plans.{opened_plan}
use Rattle.tow_advance.proofs.laws.opened_plan.Goals as goal

pub returns : goal.returns
returns c = opened_plan
