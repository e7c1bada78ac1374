use Rattle.tow_course.proofs.Coursing.{course_opens}
use Rattle.tow_course.proofs.laws.course_opens.Goals as goal

pub returns : goal.returns
returns c = course_opens
