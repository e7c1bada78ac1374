use Rattle.tow_semantics.proofs.LogDates.{log_dates_are}
use Rattle.tow_semantics.proofs.laws.log_dates_are.Goals as goal

pub returns : goal.returns
returns c = log_dates_are
