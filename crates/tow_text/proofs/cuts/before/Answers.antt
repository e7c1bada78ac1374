use Rattle.std.proofs.Common.{◌∙◌}
use Rattle.tow_text.proofs.Fronts.{before_at}
use Rattle.tow_text.proofs.cuts.before.Goals as goal

pub returns : goal.returns
returns c = c.split_at.ensures.front ∙ before_at c.args.byte c.args.text.now _ c.len_before.ensures
