use Rattle.tow_advance.proofs.Plans.{page_plan}
use Rattle.tow_advance.proofs.laws.page_plan.Goals as goal

pub returns : goal.returns
returns c = page_plan
