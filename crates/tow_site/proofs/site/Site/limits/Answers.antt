use Rattle.std.proofs.Common.{ap, ◌∙◌}
use Rattle.tow_program.specs.Actions.{bounds_in}
use Rattle.tow_program.proofs.Acting.{bounds_are_tree}
use Rattle.tow_site.proofs.site.Site.limits.Goals as goal

pub returns : goal.returns
returns c = rw (← c.self.view_is) (c.limits.ensures ∙ ap bounds_in c.self.invariant.3 ∙ bounds_are_tree c.self.inside.tree)
