use Rattle.tow_states.proofs.Knowing.{course_is_met}
use Rattle.tow_states.proofs.laws.course_is_met.Goals as goal

pub returns : goal.returns
returns c = course_is_met
