use Rattle.tow_history.specs.Legal.{nobody}
use Rattle.tow_history.proofs.Sound.{sound_after, legal_front}
use Rattle.tow_history.proofs.laws.few_inside.Goals as goal

pub returns-clause-inside : goal.returns-clause-inside
returns-clause-inside c = λ h more most queue ok. (sound_after most queue h (legal_front most queue nobody h more ok)).few

pub returns-clause-line : goal.returns-clause-line
returns-clause-line c = λ h more most queue ok. (sound_after most queue h (legal_front most queue nobody h more ok)).short

pub returns-clause-counts : goal.returns-clause-counts
returns-clause-counts c = λ h most queue ok. (sound_after most queue h ok).sum_is
