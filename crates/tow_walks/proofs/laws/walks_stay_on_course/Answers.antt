use Rattle.tow_walks.proofs.Staying.{walks_stay_on_course}
use Rattle.tow_walks.proofs.laws.walks_stay_on_course.Goals as goal

pub returns : goal.returns
returns c = walks_stay_on_course
