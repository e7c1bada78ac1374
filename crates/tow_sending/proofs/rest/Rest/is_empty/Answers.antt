use Rattle.std.proofs.Common.{ap, ◌∙◌}
use Rattle.tow_model.specs.Texts.{is_empty}
use Rattle.tow_sending.proofs.PlaceLemmas.{at_end}
use Rattle.tow_sending.proofs.rest.Rest.is_empty.Goals as goal

pub returns : goal.returns
returns c = at_end c.self.inside.bytes c.self.inside.at c.len.result c.self.invariant c.len.ensures ∙ ap is_empty c.self.view_is
