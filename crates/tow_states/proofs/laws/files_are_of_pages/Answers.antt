use Rattle.tow_states.proofs.Servings.{files_are_of_pages}
use Rattle.tow_states.proofs.laws.files_are_of_pages.Goals as goal

pub returns : goal.returns
returns c = files_are_of_pages
