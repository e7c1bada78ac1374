use Rattle.tow_language.proofs.Kept.{is_one_cut}
use Rattle.tow_language.proofs.laws.one_cut.Goals as goal

pub returns : goal.returns
returns c = is_one_cut
