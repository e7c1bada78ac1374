use Rattle.tow_stages.proofs.Ends.{ends_are_ends}
use Rattle.tow_stages.proofs.laws.ends_are_ends.Goals as goal

pub returns : goal.returns
returns c = ends_are_ends
