use Rattle.std.proofs.Common.{◌∙◌}
use Rattle.tow_pred.proofs.Parts.{found_is_contained}
use Rattle.tow_pred.proofs.values.has_part.Goals as goal

pub returns : goal.returns
returns c = c.is_some.ensures ∙ found_is_contained c.args.part.now c.args.text.now c.find.result c.find.ensures
