use Rattle.tow_course.proofs.Coursing.{course_advances}
use Rattle.tow_course.proofs.laws.course_advances.Goals as goal

pub returns : goal.returns
returns c = course_advances
