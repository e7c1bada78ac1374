use Rattle.tow_semantics.proofs.Servings.{serves_its_files}
use Rattle.tow_semantics.proofs.laws.serves_its_files.Goals as goal

pub returns : goal.returns
returns c = serves_its_files
