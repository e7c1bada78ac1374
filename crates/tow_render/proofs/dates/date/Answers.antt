use Rattle.std.proofs.Common.{◌∙◌}
use Rattle.tow_model.proofs.DateProofs.{date_is}
use Rattle.tow_render.proofs.dates.date.Goals as goal

pub returns : goal.returns
returns c = c.in_ok-bytes.ensures ∙ date_is c.args.second c.date_bytes.result c.requires c.date_bytes.ensures
