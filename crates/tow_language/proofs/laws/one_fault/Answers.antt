use Rattle.tow_language.proofs.Kept.{is_one_fault}
use Rattle.tow_language.proofs.laws.one_fault.Goals as goal

pub returns : goal.returns
returns c = is_one_fault
