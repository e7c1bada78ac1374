use Rattle.tow_course.proofs.Coursing.{course_waits_for_verdict}
use Rattle.tow_course.proofs.laws.course_waits_for_verdict.Goals as goal

pub returns : goal.returns
returns c = course_waits_for_verdict
