-- The histories that main's pass shows once it has collected all others.
use Rattle.std.specs.Prelude.{ℕ, zero, suc, ◌+◌, ◌<◌, ◌≤◌, ◌==◌, ◌≡◌, Bool, true, false, cond, List, [], ◌∷◌, ◌++◌, length, map, Option, Some, None, IsSome, unwrap_or, slice_get, slice_index_or}
use Rattle.tow_model.specs.declared.account.Bound.{Bound}
use Rattle.tow_model.specs.declared.account.Call.{Call}
use Rattle.tow_history.specs.declared.entry.Entry.{Entry}
use Rattle.tow_history.specs.Legal.{legal_at}
use Rattle.tow_history.specs.Histories.{of, calls_at}
use Rattle.tow_pass.specs.declared.view.View.{View}
use Rattle.tow_pass.specs.Calls.{Numbered, was_refused, at_limit, entries}
use Rattle.tow_pass.specs.Views.{kept_of}
use Rattle.tow_pass.specs.Shown.{PassShown}
use Rattle.atomic_table.specs.Table.{Me, Step}

-- what f gives of n, n + 1 and so on, for so many numbers, joined
abbrev pub gather : {A : Type 0} → (ℕ → List A) → (n many : ℕ) → List A
gather f n zero = []
gather f n (suc many) = f n ++ gather f (suc n) many

-- the sum of what f gives of them
abbrev pub sum_of : (ℕ → ℕ) → (n many : ℕ) → ℕ
sum_of f n zero = 0
sum_of f n (suc many) = f n + sum_of f (suc n) many

-- the calls of connection k that the view keeps, and those of them at limit l
abbrev pub calls_kept : View → (k : ℕ) → List Numbered
calls_kept v k = unwrap_or (kept_of k v.kept) []

abbrev pub kept_at_limit : View → (l k : ℕ) → List Numbered
kept_at_limit v l k = at_limit l (calls_kept v k)

abbrev pub calls_of : List Numbered → List Call
calls_of cs = map (λ c. c.call) cs

-- the refusals with a number, and the admission or leaving with it
abbrev pub refused_at : ℕ → List Numbered → List Call
refused_at n [] = []
refused_at n (c ∷ cs) = cond (was_refused c) (cond (c.number == n) (c.call ∷ refused_at n cs) (refused_at n cs)) (refused_at n cs)

abbrev pub made_at : ℕ → List Numbered → List Call
made_at n [] = []
made_at n (c ∷ cs) = cond (was_refused c) (made_at n cs) (cond (c.number == n) (c.call ∷ made_at n cs) (made_at n cs))

-- calls as entries of connection k
abbrev pub by : (k : ℕ) → List Call → List Entry
by k [] = []
by k (c ∷ cs) = record { connection = k; call = c } ∷ by k cs

-- the refusals with a number, by connection and in the order of its pass, and then the admission or leaving with it
abbrev pub refusals_with : View → (l n : ℕ) → List Entry
refusals_with v l n = gather (λ k. by k (refused_at n (kept_at_limit v l k))) 0 v.issued

abbrev pub entry_with : View → (l n : ℕ) → List Entry
entry_with v l n = gather (λ k. by k (made_at n (kept_at_limit v l k))) 0 v.issued

-- how many admissions and leavings there are
abbrev pub count_kept : View → (l : ℕ) → ℕ
count_kept v l = sum_of (λ k. length (entries (kept_at_limit v l k))) 0 v.issued

-- the history of limit l: by number, and with the last number the refusals alone, since no entry has it
abbrev pub history_of : View → (l : ℕ) → List Entry
history_of v l = gather (λ n. refusals_with v l n ++ entry_with v l n) 0 (suc (count_kept v l))

-- those of all limits, by their numbers
abbrev pub histories_of : View → (limits : ℕ) → List (List Entry)
histories_of v limits = gather (λ l. history_of v l ∷ []) 0 limits

-- each pass that was issued was collected
abbrev pub AllCollected : View → Type 0
AllCollected v = (k : ℕ) → k < v.issued → IsSome (kept_of k v.kept)

-- the history of a limit that main's pass has at the close: each connection's calls at the limit stand in it in their order
pub record Closed (b : Bound) (v : View) (l : ℕ) (h : List Entry) : Type 0 where
  pub is : h ≡ history_of v l
  pub legal : legal_at b h
  pub calls : (k : ℕ) → k < v.issued → of h k ≡ calls_at l (calls_of (calls_kept v k))
  pub no_other : (k : ℕ) → v.issued ≤ k → of h k ≡ []

-- what is known of the histories that the limits of these bounds had
abbrev pub AreClosed : List Bound → View → List (List Entry) → Type 0
AreClosed bounds v hs = (length hs ≡ length bounds) × ((l : ℕ) (b : Bound) → slice_get bounds l ≡ Some b → Closed b v l (slice_index_or hs l []))

-- what contracts see of what is left of limits: whether their closing was kept, and the history of each
pub record PastShown : Type 0 where
  pub some : Bool
  pub histories : List (List Entry)

-- what contracts see, of a closing pass that is kept or of none, and so many limits
abbrev pub past_shown : Option PassShown → (limits : ℕ) → PastShown
past_shown None limits = record { some = false; histories = [] }
past_shown (Some p) limits = record { some = true; histories = histories_of p.view limits }

-- what the load of a close tells
abbrev pub closes : {S : Type 0} → List Bound → Step S → Me S View → ℕ → Me S View → Type 0
closes bounds st m r m' = (m' ≡ m) × ((l : ℕ) (b : Bound) → slice_get bounds l ≡ Some b → Closed b m.0 l (history_of m.0 l))
