use Rattle.tow_advance.proofs.Plans.{verdict_plan}
use Rattle.tow_advance.proofs.laws.verdict_plan.Goals as goal

pub returns : goal.returns
returns c = verdict_plan
