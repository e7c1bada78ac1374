use Rattle.std.proofs.Common.{List, ℕ, take, drop, ap, ◌∙◌}
use Rattle.tow_model.specs.declared.limits.TheConstants.{BLOCK_LEN}
use Rattle.tow_sending.proofs.PlaceLemmas.{first_block}
use Rattle.tow_sending.proofs.rest.Rest.first.Goals as goal

pub returns-clause-bytes : goal.returns-clause-bytes
returns-clause-bytes c =
    first_block c.as_slice.result.now c.self.inside.at c.min.result c.min.ensures
    ∙ ap (λ (l : List ℕ). take BLOCK_LEN (drop c.self.inside.at l)) c.as_slice.ensures
    ∙ ap (λ (l : List ℕ). take BLOCK_LEN l) c.self.view_is
