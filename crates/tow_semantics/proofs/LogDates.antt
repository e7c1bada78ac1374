-- A line of a log shows the calendar's numbers.
use Rattle.std.proofs.Common.{◌≡◌, ℕ, ◌+◌, ◌*◌, ◌/◌, ◌%◌, ◌<◌, ◌++◌, ap, subst, arith, codes}
use Rattle.httpdate.specs.declared.parts.Parts.{Parts}
use Rattle.tow_model.specs.Dates.{IsAt, parts_at, parts_of, log_day}
use Rattle.tow_model.proofs.DateProofs.{parts_are, one_moment}
use Rattle.tow_semantics.specs.Laws.{LogDatesAre}

day_fits : (second : ℕ) → second < 253402300800 → second / 86400 < 2932897
day_fits second small = omega arith

split : (second : ℕ) → second / 86400 * 86400 + second % 86400 ≡ second
split second = omega arith

time_fits : (second : ℕ) → second % 86400 < 86400
time_fits second = omega arith

at_second : (second : ℕ) → second < 253402300800 → IsAt second (parts_at second)
at_second second small =
    subst (λ (s : ℕ). IsAt s (parts_of (second / 86400) (second % 86400))) (split second)
    (parts_are (second / 86400) (second % 86400) (day_fits second small) (time_fits second))

pub log_dates_are : LogDatesAre
log_dates_are second p small at =
    ap (λ (numbers : Parts). codes "[" ++ log_day numbers ++ codes "]") (one_moment second (parts_at second) p (at_second second small) at)
