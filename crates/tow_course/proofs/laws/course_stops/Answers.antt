use Rattle.tow_course.proofs.Coursing.{course_stops}
use Rattle.tow_course.proofs.laws.course_stops.Goals as goal

pub returns : goal.returns
returns c = course_stops
