-- What the calls of a connection say of the limits that its exchanges are inside.
use Rattle.std.specs.Prelude.{◌≡◌, ◌≢◌, ℕ, suc, ◌+◌, ◌<◌, ◌≤◌, Bool, true, false, ◌&&◌, ◌==◌, List, [], ◌∷◌, ◌++◌, count_by, All}
use Rattle.tow_model.specs.declared.record.Listener.{Listener}
use Rattle.tow_model.specs.declared.record.Listener.TheVariants as listener
use Rattle.tow_model.specs.declared.account.Call.{Call}
use Rattle.tow_model.specs.declared.account.What.{What}
use Rattle.tow_model.specs.declared.account.What.TheVariants.{Enter, Leave}
use Rattle.tow_model.specs.declared.account.Verdict.TheVariants.{Admitted, Refused}
use Rattle.tow_progress.specs.Ended.{is_admission, leaves}

abbrev pub is_entry : What → Bool
is_entry (Enter verdict) = is_admission verdict
is_entry Leave = false

abbrev pub is_exit : What → Bool
is_exit (Enter verdict) = false
is_exit Leave = true

-- by the call, request j went into this limit
abbrev pub goes_in : (limit j : ℕ) → Call → Bool
goes_in limit j call = call.limit == limit && (call.request == j && is_entry call.what)

-- by the call, request j left this limit
abbrev pub goes_out : (limit j : ℕ) → Call → Bool
goes_out limit j call = call.limit == limit && (call.request == j && is_exit call.what)

-- Request j is open, with these listeners still to run, the next one first; and these calls were made.
pub record KeepsInside (j : ℕ) (to_run : List Listener) (made : List Call) : Type 0 where
  -- no call is of a later request
  pub none_later : All (λ call. call.request ≤ j) made
  -- request j went into each limit as often as it left it and has leavings of it still to run
  pub open_one : (limit : ℕ)
      → count_by (goes_in limit j) made ≡ count_by (goes_out limit j) made + count_by (leaves limit) to_run
  -- each other request left each limit as often as it went in
  pub others : (limit i : ℕ) → i ≢ j → count_by (goes_in limit i) made ≡ count_by (goes_out limit i) made

abbrev pub call_of : (limit j : ℕ) → What → Call
call_of limit j what = record { limit = limit; request = j; what = what }

-- Each step keeps it.
pub record InsideIsKept : Type 0 where
  -- nothing was asked yet
  pub opens : (j : ℕ) → KeepsInside j [] []
  -- the limit admitted the open request, which has its leaving to run
  pub admits : (j : ℕ) (to_run : List Listener) (made : List Call) (limit : ℕ) → KeepsInside j to_run made
      → KeepsInside j (listener.Leave limit ∷ to_run) (made ++ call_of limit j (Enter Admitted) ∷ [])
  -- the limit refused it
  pub refuses : (j : ℕ) (to_run : List Listener) (made : List Call) (limit : ℕ) → KeepsInside j to_run made
      → KeepsInside j to_run (made ++ call_of limit j (Enter Refused) ∷ [])
  -- a log listens
  pub adds_log : (j : ℕ) (to_run : List Listener) (made : List Call) (number : ℕ) → KeepsInside j to_run made
      → KeepsInside j (listener.Log number ∷ to_run) made
  -- the next listener leaves its limit, which the request is inside
  pub leaves_one : (j : ℕ) (to_run : List Listener) (made : List Call) (limit : ℕ)
      → KeepsInside j (listener.Leave limit ∷ to_run) made
      → KeepsInside j to_run (made ++ call_of limit j Leave ∷ [])
  pub may_leave : (j : ℕ) (to_run : List Listener) (made : List Call) (limit : ℕ)
      → KeepsInside j (listener.Leave limit ∷ to_run) made
      → count_by (goes_out limit j) made < count_by (goes_in limit j) made
  -- the next listener has told its line
  pub tells_one : (j : ℕ) (to_run : List Listener) (made : List Call) (number : ℕ)
      → KeepsInside j (listener.Log number ∷ to_run) made → KeepsInside j to_run made
  -- no listener is left, and the next request is open
  pub goes_on : (j : ℕ) (made : List Call) → KeepsInside j [] made → KeepsInside (suc j) [] made
