use Rattle.std.proofs.Common.{ap, ◌∙◌}
use Rattle.tow_pass.specs.Shown.{most_at}
use Rattle.tow_pass.proofs.Asks.{most_read}
use Rattle.tow_pass.proofs.limits.Limits.most.Goals as goal

pub returns : goal.returns
returns c =
    let same = ap (λ x. x.bounds) c.self.view_is in
    most_read c.self.inside.bounds.items c.args.limit c.index.result.now (rw same c.requires) c.index.ensures ∙ ap (λ bounds. most_at bounds c.args.limit) same
