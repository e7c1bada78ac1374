-- The log's moment, from the bytes of the date field.
use Rattle.std.proofs.Common.{◌≡◌, ℕ, ◌+◌, ◌-◌, ◌*◌, ◌/◌, ◌%◌, ◌<◌, ◌≤◌, Bool, true, ◌==◌, List, [], ◌∷◌, ◌++◌, codes, length, slice_index_or, refl, ap, ◌∙◌, subst, arith}
use Rattle.std.proofs.lemmas.Bool.{agree_below, agree_below_at}
use Rattle.std.proofs.lemmas.Bool.Decides.{nat_tests}
use Rattle.httpdate.specs.declared.parts.Parts.{Parts}
use Rattle.httpdate.specs.Valid.{IsValid}
use Rattle.httpdate.specs.Text.{imf_fixdate, day_name, month_name}
use Rattle.tow_model.specs.Dates.{IsAt, IsDate, parts_at, parts_of, log_day, log_date_of}
use Rattle.tow_model.proofs.DateProofs.{one_moment, parts_are}

-- the log's bytes, picked from those of the date field
abbrev pub picked : List ℕ → List ℕ
picked t =
    91 ∷ slice_index_or t 5 0 ∷ slice_index_or t 6 0 ∷ 47 ∷ slice_index_or t 8 0 ∷ slice_index_or t 9 0 ∷ slice_index_or t 10 0
    ∷ 47 ∷ slice_index_or t 12 0 ∷ slice_index_or t 13 0 ∷ slice_index_or t 14 0 ∷ slice_index_or t 15 0
    ∷ 58 ∷ slice_index_or t 17 0 ∷ slice_index_or t 18 0 ∷ 58 ∷ slice_index_or t 20 0 ∷ slice_index_or t 21 0
    ∷ 58 ∷ slice_index_or t 23 0 ∷ slice_index_or t 24 0 ∷ 32 ∷ 43 ∷ 48 ∷ 48 ∷ 48 ∷ 48 ∷ 93 ∷ []

abbrev logged : Parts → List ℕ
logged p = codes "[" ++ log_day p ++ codes "]"

abbrev is_three : List ℕ → Bool
is_three name = length name == 3

days : agree_below (λ n. is_three (day_name (n + 1))) (λ _. true) 7 ≡ true
days = refl

months : agree_below (λ n. is_three (month_name (n + 1))) (λ _. true) 12 ≡ true
months = refl

-- a list of three, spelled out
three : (xs : List ℕ) → is_three xs ≡ true → (a : ℕ) × (b : ℕ) × (c : ℕ) × (xs ≡ a ∷ b ∷ c ∷ [])
three [] is = absurd (cc)
three (a ∷ []) is = absurd (cc)
three (a ∷ b ∷ []) is = absurd (cc)
three (a ∷ b ∷ c ∷ []) is = (a, b, c, refl)
three (a ∷ b ∷ c ∷ d ∷ xs) is = absurd (grind (arith, nat_tests))

day_three : (n : ℕ) → 1 ≤ n → n ≤ 7 → is_three (day_name n) ≡ true
day_three n low high =
    let at : (n - 1) + 1 ≡ n = omega arith in
    subst (λ (k : ℕ). is_three (day_name k) ≡ true) at
    (agree_below_at (λ k. is_three (day_name (k + 1))) (λ _. true) 7 (n - 1) days (omega arith))

month_three : (n : ℕ) → 1 ≤ n → n ≤ 12 → is_three (month_name n) ≡ true
month_three n low high =
    let at : (n - 1) + 1 ≡ n = omega arith in
    subst (λ (k : ℕ). is_three (month_name k) ≡ true) at
    (agree_below_at (λ k. is_three (month_name (k + 1))) (λ _. true) 12 (n - 1) months (omega arith))

weekday_range : (p : Parts) → IsValid p → (1 ≤ p.wday) × (p.wday ≤ 7)
weekday_range p valid = (omega (arith, valid.2), omega (arith, valid.2))

picked_log : (p : Parts) → IsValid p → picked (imf_fixdate p) ≡ logged p
picked_log p valid =
    let week = weekday_range p valid in
    let d = three (day_name p.wday) (day_three p.wday week.0 week.1) in
    let m = three (month_name p.mon) (month_three p.mon valid.0.1.0 valid.0.1.1) in
    rw (d.3, m.3) refl

parts_there : (second : ℕ) → second < 253402300800 → IsAt second (parts_at second)
parts_there second small =
    let split : second / 86400 * 86400 + second % 86400 ≡ second = omega arith in
    subst (λ (s : ℕ). IsAt s (parts_of (second / 86400) (second % 86400))) split
    (parts_are (second / 86400) (second % 86400) (omega arith) (omega arith))

pub log_of_date : (second : ℕ) (text : List ℕ) → second < 253402300800 → IsDate second text → picked text ≡ log_date_of second
log_of_date second text small (p, at, shown) =
    ap picked shown ∙ picked_log p at.valid ∙ ap logged (one_moment second p (parts_at second) at (parts_there second small))
