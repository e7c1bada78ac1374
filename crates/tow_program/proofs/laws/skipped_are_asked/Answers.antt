use Rattle.tow_program.proofs.Skipping.{skipped_are_asked}
use Rattle.tow_program.proofs.laws.skipped_are_asked.Goals as goal

pub returns : goal.returns
returns c = skipped_are_asked
