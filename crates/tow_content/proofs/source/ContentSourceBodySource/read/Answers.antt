use Rattle.std.proofs.Common.{sym, subst}
use Rattle.tow_source.specs.declared.body.Body.TheVariants.{End}
use Rattle.tow_source.specs.Readings.{Reads, Onward}
use Rattle.tow_content.specs.declared.source.ContentSource.{ContentSource}
use Rattle.tow_content.specs.Sources.{ReadsContent}
use Rattle.tow_content.proofs.Giving.{says_end}
use Rattle.tow_content.proofs.source.ContentSourceBodySource.read.Goals as goal

pub returns-in-Empty-clause-law : goal.returns-in-Empty-clause-law
returns-in-Empty-clause-law c =
    let from = c.args.from.now in
    subst (λ (s : ContentSource). Onward (ReadsContent s) (ReadsContent s) (Reads End from from c.args.to.now)) (sym c.in-Empty.is)
    (says_end from c.args.to.now)
