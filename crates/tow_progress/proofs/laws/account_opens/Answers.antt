use Rattle.tow_progress.proofs.AccountLemmas.{account_opens}
use Rattle.tow_progress.proofs.laws.account_opens.Goals as goal

pub returns : goal.returns
returns c = account_opens
