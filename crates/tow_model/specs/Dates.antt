-- A second since 1970 by the calendar of `httpdate`: the date field's value, and the form of an access log.
use Rattle.std.specs.Prelude.{◌≡◌, ℕ, zero, suc, ◌+◌, ◌-◌, ◌/◌, ◌%◌, nat_le, if◌then◌else◌, List, ◌++◌, codes}
use Rattle.httpdate.specs.declared.parts.Parts.{Parts}
use Rattle.httpdate.specs.Calendar.{days_of_years, days_of_months, weekday}
use Rattle.httpdate.specs.Text.{imf_fixdate, two_digits, four_digits, month_name, time_of_day}
use Rattle.httpdate.specs.Valid.{IsValid, parts_secs}
use Rattle.tow_model.specs.declared.limits.TheConstants.{FIRST_UNDATED}

-- the first second that no date shows: that of the year 10000
abbrev pub first_undated : ℕ
first_undated = FIRST_UNDATED

-- the greatest k up to most at which f is at most n
unfoldable pub last_up_to : (ℕ → ℕ) → ℕ → ℕ → ℕ
last_up_to f n zero = 0
last_up_to f n (suc most) = if nat_le (f (suc most)) n then suc most else last_up_to f n most

-- the years that have passed before this day
abbrev pub years_before : ℕ → ℕ
years_before day = last_up_to days_of_years day 8029

-- the months of the year that have passed before its day, which counts from 0
abbrev pub months_before : ℕ → ℕ → ℕ
months_before year day = last_up_to (days_of_months year) day 11

-- the calendar's numbers of this day and this second of it
unfoldable pub parts_of : ℕ → ℕ → Parts
parts_of day time =
    let years = years_before day in
    let rest = day - days_of_years years in
    let months = months_before (1970 + years) rest in
    record {
      year = 1970 + years;
      mon = months + 1;
      day = rest - days_of_months (1970 + years) months + 1;
      hour = time / 3600;
      min = time % 3600 / 60;
      sec = time % 60;
      wday = weekday day;
    }

-- the calendar's numbers at a second
abbrev pub parts_at : ℕ → Parts
parts_at second = parts_of (second / 86400) (second % 86400)

-- `Thu, 01 Jan 1970 00:00:00 GMT`, for a second (RFC 9110, section 5.6.7)
unfoldable pub date_of : ℕ → List ℕ
date_of second = imf_fixdate (parts_of (second / 86400) (second % 86400))

-- the numbers are the calendar's at that second
pub record IsAt (second : ℕ) (p : Parts) : Type 0 where
  pub valid : IsValid p
  pub at : parts_secs p ≡ second

-- the text is the date field's at that second
abbrev pub IsDate : ℕ → List ℕ → Type 0
IsDate second text = (p : Parts) × IsAt second p × (text ≡ imf_fixdate p)

-- the function gives it for every second that a date can show
abbrev pub DateIs : ℕ → Type 0
DateIs second = (text : List ℕ) → IsDate second text → text ≡ date_of second

-- `06/Nov/1994:08:49:37 +0000`
abbrev pub log_day : Parts → List ℕ
log_day p = two_digits p.day ++ codes "/" ++ month_name p.mon ++ codes "/" ++ four_digits p.year ++ codes ":" ++ time_of_day p ++ codes " +0000"

-- the second as a line of an access log shows it, in brackets
abbrev pub log_date_of : ℕ → List ℕ
log_date_of second = codes "[" ++ log_day (parts_at second) ++ codes "]"
