use Rattle.tow_course.proofs.Breaking.{course_breaks}
use Rattle.tow_course.proofs.laws.course_breaks.Goals as goal

pub returns : goal.returns
returns c = course_breaks
