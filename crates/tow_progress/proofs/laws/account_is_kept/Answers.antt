use Rattle.tow_progress.proofs.AccountLemmas.{account_is_kept}
use Rattle.tow_progress.proofs.laws.account_is_kept.Goals as goal

pub returns : goal.returns
returns c = account_is_kept
