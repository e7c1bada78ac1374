use Rattle.tow_course.proofs.Coursing.{course_hears}
use Rattle.tow_course.proofs.laws.course_hears.Goals as goal

pub returns : goal.returns
returns c = course_hears
