-- The function's numbers are the calendar's.
use Rattle.std.proofs.Common.{◌≡◌, ℕ, zero, suc, ◌+◌, ◌-◌, ◌*◌, ◌/◌, ◌%◌, ◌<◌, ◌≤◌, Bool, true, false, nat_le, if◌then◌else◌, List, refl, sym, ap, ◌∙◌, subst, arith, codes, lit≤, lit<}
use Rattle.std.proofs.lemmas.Bool.Decides.{nat_tests}
use Rattle.httpdate.specs.declared.parts.Parts.{Parts}
use Rattle.httpdate.specs.Calendar.{days_of_years, days_of_months, days_in_year, days_in_month, days_from_civil, weekday}
use Rattle.httpdate.proofs.CalendarLemmas.{days_of_years_closed, days_of_months_all}
use Rattle.httpdate.specs.Text.{imf_fixdate}
use Rattle.httpdate.proofs.Theorems.{unix_secs_injective}
use Rattle.tow_model.specs.Dates.{last_up_to, parts_of, date_of, IsAt, IsDate, DateIs}

-- what the search finds
pub record IsLast (f : ℕ → ℕ) (n most k : ℕ) : Type 0 where
  pub within : k ≤ most
  pub low : f k ≤ n
  pub high : n < f (suc k)

le_from_test : (a b : ℕ) → nat_le a b ≡ true → a ≤ b
le_from_test a b is = grind (arith, nat_tests)

gt_from_test : (a b : ℕ) → nat_le a b ≡ false → b < a
gt_from_test a b is = grind (arith, nat_tests)

step : (f : ℕ → ℕ) (n most k : ℕ) (b : Bool) → nat_le (f (suc most)) n ≡ b → n < f (suc (suc most))
    → (n < f (suc most) → IsLast f n most k) → IsLast f n (suc most) (if b then suc most else k)
step f n most k true is high rest = record { within = omega arith; low = le_from_test _ _ is; high = high }
step f n most k false is high rest =
    let below = rest (gt_from_test (f (suc most)) n is) in
    record { within = omega (arith, below.within); low = below.low; high = below.high }

pub found : (f : ℕ → ℕ) (n most : ℕ) → f 0 ≤ n → n < f (suc most) → IsLast f n most (last_up_to f n most)
unfolding last_up_to
found f n zero low high = record { within = omega arith; low = low; high = high }
found f n (suc most) low high =
    step f n most (last_up_to f n most) (nat_le (f (suc most)) n) refl high (λ less. found f n most low less)

years : (day : ℕ) → day < 2932897 → IsLast days_of_years day 8029 (last_up_to days_of_years day 8029)
unfolding days_of_years
years day small =
    let end : days_of_years 8030 ≡ 2932897 = omega (arith, days_of_years_closed 8030) in
    found days_of_years day 8029 (omega arith) (omega (arith, end))

year_length : (n : ℕ) → days_of_years (suc n) ≡ days_of_years n + days_in_year (1970 + n)
unfolding days_of_years
year_length n = refl

month_length : (y n : ℕ) → days_of_months y (suc n) ≡ days_of_months y n + days_in_month y (suc n)
unfolding days_of_months
month_length y n = refl

months : (y day : ℕ) → day < days_in_year y → IsLast (days_of_months y) day 11 (last_up_to (days_of_months y) day 11)
unfolding days_of_months
months y day small =
    found (days_of_months y) day 11 (omega arith) (omega (arith, days_of_months_all y))

clock : (t : ℕ) → t / 3600 * 3600 + t % 3600 / 60 * 60 + t % 60 ≡ t
clock t = omega arith

hour_fits : (t : ℕ) → t < 86400 → t / 3600 < 24
hour_fits t short = omega arith

year_back : (n : ℕ) → (1970 + n) - 1970 ≡ n
year_back n = omega arith

month_back : (k : ℕ) → (k + 1) - 1 ≡ k
month_back k = omega arith

day_is : (day n k : ℕ) → days_of_years n ≤ day → days_of_months (1970 + n) k ≤ day - days_of_years n
    → days_from_civil (1970 + n) (k + 1) (day - days_of_years n - days_of_months (1970 + n) k + 1) ≡ day
day_is day n k low more = rw (year_back n, month_back k) (omega arith)

sums : (c day h m s t : ℕ) → c ≡ day → h + m + s ≡ t → c * 86400 + h + m + s ≡ day * 86400 + t
sums c day h m s t same clock_is = omega arith

month_fits : (y k r : ℕ) → days_of_months y k ≤ r → r < days_of_months y (suc k)
    → r - days_of_months y k + 1 ≤ days_in_month y (k + 1)
month_fits y k r low high =
    let next : suc k ≡ k + 1 = omega arith in
    subst (λ (j : ℕ). r - days_of_months y k + 1 ≤ days_in_month y j) next (omega (arith, month_length y k))

assemble : (day time n k : ℕ) → time < 86400 → IsLast days_of_years day 8029 n
    → IsLast (days_of_months (1970 + n)) (day - days_of_years n) 11 k
    → IsAt (day * 86400 + time) (record {
      year = 1970 + n;
      mon = k + 1;
      day = day - days_of_years n - days_of_months (1970 + n) k + 1;
      hour = time / 3600;
      min = time % 3600 / 60;
      sec = time % 60;
      wday = weekday day;
    })
assemble day time n k short y m =
    let same = day_is day n k y.low m.low in
    let in_month : day - days_of_years n - days_of_months (1970 + n) k + 1 ≤ days_in_month (1970 + n) (k + 1) =
    month_fits (1970 + n) k (day - days_of_years n) m.low m.high in
    record {
      valid = (
        ((omega arith, omega (arith, y.within)), (omega arith, omega (arith, m.within)), (omega arith, in_month)),
        (hour_fits time short, omega arith, omega arith),
        sym (ap weekday same),
      );
      at = sums _ day _ _ _ time same (clock time);
    }

pub parts_are : (day time : ℕ) → day < 2932897 → time < 86400 → IsAt (day * 86400 + time) (parts_of day time)
unfolding parts_of
parts_are day time small short =
    let y = years day small in
    let in_year : day - days_of_years (last_up_to days_of_years day 8029) < days_in_year (1970 + last_up_to days_of_years day 8029) =
    omega (arith, y.low, y.high, year_length (last_up_to days_of_years day 8029)) in
    assemble day time _ _ short y (months _ _ in_year)

pub one_moment : (second : ℕ) (p q : Parts) → IsAt second p → IsAt second q → p ≡ q
one_moment second p q a b =
    unix_secs_injective (record { parts = p; civil = a.valid.0; time = a.valid.1; right_day = a.valid.2 })
    (record { parts = q; civil = b.valid.0; time = b.valid.1; right_day = b.valid.2 }) (a.at ∙ sym b.at)

day_fits : (second : ℕ) → second < 253402300800 → second / 86400 < 2932897
day_fits second small = omega arith

split : (second : ℕ) → second / 86400 * 86400 + second % 86400 ≡ second
split second = omega arith

time_fits : (second : ℕ) → second % 86400 < 86400
time_fits second = omega arith

moment_parts : (second : ℕ) → second < 253402300800 → IsAt second (parts_of (second / 86400) (second % 86400))
moment_parts second small =
    subst (λ (s : ℕ). IsAt s (parts_of (second / 86400) (second % 86400))) (split second)
    (parts_are (second / 86400) (second % 86400) (day_fits second small) (time_fits second))

pub date_is : (second : ℕ) (text : List ℕ) → second < 253402300800 → IsDate second text → text ≡ date_of second
unfolding date_of
date_is second text small date =
    date.2 ∙ ap imf_fixdate (one_moment second date.0 _ date.1 (moment_parts second small))

-- the first second of all
pub date_zero : date_of 0 ≡ codes "Thu, 01 Jan 1970 00:00:00 GMT"
unfolding days_of_years days_of_months
date_zero =
    sym (date_is 0 (codes "Thu, 01 Jan 1970 00:00:00 GMT") (omega arith) (
      record { year = 1970; mon = 1; day = 1; hour = 0; min = 0; sec = 0; wday = 4 },
      record {
        valid = (((lit≤ tt, lit≤ tt), (lit≤ tt, lit≤ tt), (lit≤ tt, lit≤ tt)), (lit< tt, lit< tt, lit< tt), refl);
        at = refl;
      },
      refl,
    ))

pub date_is_one : (second : ℕ) → second < 253402300800 → DateIs second
date_is_one second small text date = date_is second text small date
