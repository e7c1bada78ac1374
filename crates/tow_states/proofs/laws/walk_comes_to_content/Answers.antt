use Rattle.tow_states.proofs.Gathers.{walk_comes_to_content}
use Rattle.tow_states.proofs.laws.walk_comes_to_content.Goals as goal

pub returns : goal.returns
returns c = walk_comes_to_content
