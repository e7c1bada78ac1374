use Rattle.tow_course.proofs.Coursing.{course_reads}
use Rattle.tow_course.proofs.laws.course_reads.Goals as goal

pub returns : goal.returns
returns c = course_reads
