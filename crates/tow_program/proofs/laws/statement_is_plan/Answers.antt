use Rattle.tow_program.proofs.Doing.{statement_is_plan}
use Rattle.tow_program.proofs.laws.statement_is_plan.Goals as goal

pub returns : goal.returns
returns c = statement_is_plan
