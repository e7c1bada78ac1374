use Rattle.tow_advance.proofs.Plans.{content_plan}
use Rattle.tow_advance.proofs.laws.content_plan.Goals as goal

pub returns : goal.returns
returns c = content_plan
