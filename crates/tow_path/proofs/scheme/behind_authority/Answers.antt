use Rattle.std.proofs.Common.{◌∙◌}
use Rattle.tow_path.proofs.Cuts.{behind_at}
use Rattle.tow_path.proofs.scheme.behind_authority.Goals as goal

pub returns : goal.returns
returns c = c.split_at.ensures.back ∙ behind_at c.args.text.now _ c.authority_len.ensures
