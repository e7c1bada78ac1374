use Rattle.tow_program.proofs.Doing.{program_is_plan}
use Rattle.tow_program.proofs.laws.program_is_plan.Goals as goal

pub returns : goal.returns
returns c = program_is_plan
