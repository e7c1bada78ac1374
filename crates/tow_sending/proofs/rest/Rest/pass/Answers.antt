use Rattle.std.proofs.Common.{List, ℕ, drop, ap, ◌∙◌}
use Rattle.tow_model.specs.declared.limits.TheConstants.{BLOCK_LEN}
use Rattle.tow_sending.proofs.PlaceLemmas.{passed}
use Rattle.tow_sending.proofs.rest.Rest.pass.Goals as goal

pub returns : goal.returns
returns c =
    passed c.self.inside.bytes c.self.inside.at c.min.result c.len.result c.len.ensures c.min.ensures
    ∙ ap (λ (l : List ℕ). drop BLOCK_LEN l) c.self.view_is
