use Rattle.tow_model.proofs.DateProofs.{date_is_one}
use Rattle.tow_model.proofs.laws.date_is.Goals as goal

pub returns : goal.returns
returns c = date_is_one c.args.second c.requires
