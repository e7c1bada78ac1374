use Rattle.std.proofs.Common.{Some, None, codes, option_copied, ap, ◌∙◌}
use Rattle.std.proofs.lemmas.Bool.Decides.{Decides-eqb}
use Rattle.std.proofs.lemmas.Slice.Eq.{strip_prefix_is}
use Rattle.tow_folder.proofs.Below.{behind_both, behind_none}
use Rattle.tow_folder.proofs.mapping.behind.Goals as goal

pub returns-in_err-strip_prefix : goal.returns-in_err-strip_prefix
returns-in_err-strip_prefix c =
    ap option_copied c.from_residual.ensures
    ∙ behind_none c.args.path.now (codes "/") c.args.name.now
    (strip_prefix_is Decides-eqb c.args.name.now c.args.path.now None c.in_err-strip_prefix.ensures.cases)

pub returns : goal.returns
returns c =
    behind_both c.args.path.now (codes "/") c.args.name.now c.in_ok-strip_prefix.field-0.now c.strip_prefix-2.result
    (strip_prefix_is Decides-eqb c.args.name.now c.args.path.now (Some c.in_ok-strip_prefix.field-0) c.in_ok-strip_prefix.ensures.cases)
    (strip_prefix_is Decides-eqb c.in_ok-strip_prefix.field-0.now (codes "/") c.strip_prefix-2.result c.strip_prefix-2.ensures.cases)
