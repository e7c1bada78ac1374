use Rattle.std.proofs.Common.{ap, ◌∙◌}
use Rattle.tow_history.specs.Histories.{of, verdicts}
use Rattle.tow_history.proofs.Exchanges.{of_append, verdicts_append, of_entries_at}
use Rattle.tow_history.proofs.laws.calls_of_pieces.Goals as goal

pub returns-clause-calls : goal.returns-clause-calls
returns-clause-calls c = of_append

pub returns-clause-verdicts : goal.returns-clause-verdicts
returns-clause-verdicts c = λ h more k. ap verdicts (of_append h more k) ∙ verdicts_append (of h k) (of more k)

pub returns-clause-limits : goal.returns-clause-limits
returns-clause-limits c = λ h l k. of_entries_at l h k
