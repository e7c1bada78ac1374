-- The calls that a pass keeps, each with its number at its limit.
use Rattle.std.specs.Prelude.{ℕ, suc, ◌+◌, ◌≤◌, ◌==◌, ◌≡◌, Bool, true, false, cond, List, [], ◌∷◌, Option, Some, None, refl}
use Rattle.std.specs.Coded.{Coded, code_by, coded_ℕ, coded_bool, coded_list, coded_option, coded×}
use Rattle.tow_model.specs.declared.account.Call.{Call}
use Rattle.tow_model.specs.declared.account.What.{What}
use Rattle.tow_model.specs.declared.account.What.TheVariants.{Enter, Leave}
use Rattle.tow_model.specs.declared.account.Verdict.TheVariants.{Admitted, Refused}
use Rattle.tow_history.specs.Deed.{Deed, Comes, Waits, Stays_out, Goes, deed_of}
use Rattle.tow_history.specs.Histories.{entering, leaving}

-- a call, and how many admissions and leavings its limit had before it
pub record Numbered : Type 0 where
  pub number : ℕ
  pub call : Call

abbrev pub call_at : (number limit request : ℕ) → What → Numbered
call_at n l j what = record { number = n; call = record { limit = l; request = j; what = what } }

abbrev pub is_refusal : Deed → Bool
is_refusal Comes = false
is_refusal (Waits t) = false
is_refusal Stays_out = true
is_refusal Goes = false

abbrev pub was_refused : Numbered → Bool
was_refused c = is_refusal (deed_of c.call.what)

abbrev pub asks_place : What → Bool
asks_place (Enter v) = true
asks_place Leave = false

-- the calls of one limit, in their order
abbrev pub at_limit : ℕ → List Numbered → List Numbered
at_limit l [] = []
at_limit l (c ∷ cs) = cond (c.call.limit == l) (c ∷ at_limit l cs) (at_limit l cs)

-- the admissions and leavings
abbrev pub entries : List Numbered → List Numbered
entries [] = []
entries (c ∷ cs) = cond (was_refused c) (entries cs) (c ∷ entries cs)

-- how often a request was admitted, and how often it left
abbrev pub admissions : ℕ → List Numbered → ℕ
admissions j [] = 0
admissions j (c ∷ cs) = cond (j == c.call.request) (entering (deed_of c.call.what) + admissions j cs) (admissions j cs)

abbrev pub leavings_of : ℕ → List Numbered → ℕ
leavings_of j [] = 0
leavings_of j (c ∷ cs) = cond (j == c.call.request) (leaving (deed_of c.call.what) + leavings_of j cs) (leavings_of j cs)

-- What a pass has seen of a limit: of how many admissions and leavings it knows. A refusal knows of those before it; an
-- admission or a leaving is one of them itself.
abbrev pub seen_by : Numbered → ℕ
seen_by c = cond (was_refused c) c.number (suc c.number)

abbrev pub seen : ℕ → List Numbered → ℕ
seen n [] = n
seen n (c ∷ cs) = seen (seen_by c) cs

-- each call has a number that is not below what the pass had seen before
abbrev pub in_order : ℕ → List Numbered → Type 0
in_order n [] = Unit {0}
in_order n (c ∷ cs) = (n ≤ c.number) × in_order (seen_by c) cs

-- the request of the last call that asked for a place
abbrev pub asked_by : ℕ → Numbered → ℕ
asked_by j c = cond (asks_place c.call.what) c.call.request j

abbrev pub last_asked : ℕ → List Numbered → ℕ
last_asked j [] = j
last_asked j (c ∷ cs) = last_asked (asked_by j c) cs

-- the requests of the calls that ask for a place never fall
abbrev pub requests_rise : ℕ → List Numbered → Type 0
requests_rise j [] = Unit {0}
requests_rise j (c ∷ cs) = (asks_place c.call.what ≡ true → j ≤ c.call.request) × requests_rise (asked_by j c) cs

-- whose a pass is
pub data Holder : Type 0 where
  Nobody : Holder  -- main collected it
  Of_main : Holder
  Of_connection : (number : ℕ) → Holder

abbrev pub is_connection : Holder → Bool
is_connection Nobody = false
is_connection Of_main = false
is_connection (Of_connection k) = true

-- how these are stored as ghost data
abbrev pub what_shown : What → Option Bool
what_shown (Enter Admitted) = Some true
what_shown (Enter Refused) = Some false
what_shown Leave = None

abbrev pub what_read : Option Bool → What
what_read (Some true) = Enter Admitted
what_read (Some false) = Enter Refused
what_read None = Leave

pub what_back : (w : What) → what_read (what_shown w) ≡ w
what_back (Enter Admitted) = refl
what_back (Enter Refused) = refl
what_back Leave = refl

abbrev pub what_code : Coded What
what_code = code_by (Option Bool) (coded_option coded_bool) what_shown what_read what_back

abbrev pub numbered_code : Coded Numbered
numbered_code =
    code_by (ℕ × (ℕ × (ℕ × What))) (coded× coded_ℕ (coded× coded_ℕ (coded× coded_ℕ what_code))) (λ c. (c.number, (c.call.limit, (c.call.request, c.call.what))))
    (λ p. call_at p.0 p.1.0 p.1.1.0 p.1.1.1) (λ _. refl)

abbrev pub holder_shown : Holder → Option (Option ℕ)
holder_shown Nobody = None
holder_shown Of_main = Some None
holder_shown (Of_connection k) = Some (Some k)

abbrev pub holder_read : Option (Option ℕ) → Holder
holder_read None = Nobody
holder_read (Some None) = Of_main
holder_read (Some (Some k)) = Of_connection k

pub holder_back : (h : Holder) → holder_read (holder_shown h) ≡ h
holder_back Nobody = refl
holder_back Of_main = refl
holder_back (Of_connection k) = refl

abbrev pub holder_code : Coded Holder
holder_code = code_by (Option (Option ℕ)) (coded_option (coded_option coded_ℕ)) holder_shown holder_read holder_back

abbrev pub calls_code : Coded (List Numbered)
calls_code = coded_list numbered_code

abbrev pub kept_code : Coded (List (ℕ × List Numbered))
kept_code = coded_list (coded× coded_ℕ calls_code)
