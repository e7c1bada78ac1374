use Rattle.tow_course.proofs.Coursing.{course_looks}
use Rattle.tow_course.proofs.laws.course_looks.Goals as goal

pub returns : goal.returns
returns c = course_looks
