use Rattle.tow_states.proofs.Servings.{found_files_have_bytes}
use Rattle.tow_states.proofs.laws.found_files_have_bytes.Goals as goal

pub returns : goal.returns
returns c = found_files_have_bytes
