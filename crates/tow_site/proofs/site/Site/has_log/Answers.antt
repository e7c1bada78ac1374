use Rattle.tow_site.proofs.Formats.{found, has_one}
use Rattle.tow_site.proofs.site.Site.has_log.Goals as goal

pub returns : goal.returns
returns c =
    rw (c.is_some.ensures, ← c.self.view_is)
    (has_one c.self.inside.tree c.args.number c.format.result
    (found c.self.inside.program c.self.inside.tree c.args.number _ c.self.invariant.3 c.format.ensures))
