use Rattle.tow_language.proofs.Kept.{is_one_derivation}
use Rattle.tow_language.proofs.laws.one_derivation.Goals as goal

pub returns : goal.returns
returns c = is_one_derivation
