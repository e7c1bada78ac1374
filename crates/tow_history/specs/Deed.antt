-- What an entry of a history does at its limit. Of the definitions on limits, this file alone changes with the waiting line.
use Rattle.std.specs.Prelude.{ℕ, ◌^◌}
use Rattle.tow_model.specs.declared.account.Bound.{Bound}
use Rattle.tow_model.specs.declared.account.What.{What}
use Rattle.tow_model.specs.declared.account.What.TheVariants.{Enter, Leave}
use Rattle.tow_model.specs.declared.account.Verdict.TheVariants.{Admitted, Refused}

pub data Deed : Type 0 where
  Comes : Deed  -- goes inside
  Waits : (ticket : ℕ) → Deed  -- goes to the end of the line, with this ticket
  Stays_out : Deed  -- was refused
  Goes : Deed  -- leaves

abbrev pub deed_of : What → Deed
deed_of (Enter Admitted) = Comes
deed_of (Enter Refused) = Stays_out
deed_of Leave = Goes

-- how many may wait
abbrev pub queue_of : Bound → ℕ
queue_of b = 0

-- so many entries other than refusals are the stated end of the counters: from there on a limit may refuse all
abbrev pub counters_end : ℕ
counters_end = 2 ^ 47
