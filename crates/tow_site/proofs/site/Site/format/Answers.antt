use Rattle.std.specs.Option.{option_copied}
use Rattle.std.proofs.Common.{sym, ap, ◌∙◌}
use Rattle.tow_site.proofs.Formats.{found, format_is, is_there}
use Rattle.tow_site.proofs.site.Site.format.Goals as goal

pub unreachable-requires : goal.unreachable-requires
unreachable-requires c =
    let below = rw (← c.self.view_is) at c.requires in
    is_there c.self.inside.tree c.args.number
    (found c.self.inside.program c.self.inside.tree c.args.number _ c.self.invariant.3 (sym (ap option_copied c.in-None.is) ∙ c.format.ensures)) below

pub returns : goal.returns
returns c =
    rw (← c.self.view_is) (format_is c.self.inside.tree c.args.number c.in-Some.format.now
    (found c.self.inside.program c.self.inside.tree c.args.number _ c.self.invariant.3 (sym (ap option_copied c.in-Some.is) ∙ c.format.ensures)))
