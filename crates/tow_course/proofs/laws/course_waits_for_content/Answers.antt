use Rattle.tow_course.proofs.Coursing.{course_waits_for_content}
use Rattle.tow_course.proofs.laws.course_waits_for_content.Goals as goal

pub returns : goal.returns
returns c = course_waits_for_content
