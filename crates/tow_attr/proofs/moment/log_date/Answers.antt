use Rattle.tow_attr.proofs.Dated.{log_of_date}
use Rattle.tow_attr.proofs.moment.log_date.Goals as goal

pub returns : goal.returns
returns c = log_of_date c.args.second c.date.result c.requires c.date.ensures
