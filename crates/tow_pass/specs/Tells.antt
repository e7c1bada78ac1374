-- What each kind of step tells the pass that takes it.
use Rattle.std.specs.Prelude.{ℕ, ◌/◌, ◌%◌, ◌<◌, ◌≤◌, ◌≡◌, ◌≢◌, ◌⊎◌}
use Rattle.atomic_table.specs.Table.{Me, Step}
use Rattle.tow_model.specs.declared.account.What.TheVariants.{Enter, Leave}
use Rattle.tow_model.specs.declared.account.Verdict.{Verdict}
use Rattle.tow_model.specs.declared.account.Verdict.TheVariants.{Admitted, Refused}
use Rattle.tow_history.specs.Deed.{counters_end}
use Rattle.tow_pass.specs.declared.view.View.{View}
use Rattle.tow_pass.specs.Calls.{call_at}
use Rattle.tow_pass.specs.Views.{called}
use Rattle.tow_pass.specs.Shown.{IsInside}

-- the two numbers of a limit's word
abbrev pub count_in : ℕ → ℕ
count_in word = word / 65536

abbrev pub inside_in : ℕ → ℕ
inside_in word = word % 65536

-- as many as may be are inside, or the count has come to its end
abbrev pub IsFull : (most word : ℕ) → Type 0
IsFull most word = (most ≤ inside_in word) ⊎ (counters_end ≤ count_in word)

abbrev pub HasRoom : (most word : ℕ) → Type 0
HasRoom most word = (inside_in word < most) × (count_in word < counters_end)

module _ {S : Type 0} where
  -- an admission, where the word was the one that was expected; the request is inside then
  abbrev pub admitted : (limit request : ℕ) → Step S → Me S View → ℕ → Me S View → Type 0
  admitted l j st m r m' = (m'.1 ≡ m.1) × (r ≡ st.first → (m'.0 ≡ called m.0 (call_at (count_in r) l j (Enter Admitted))) × IsInside l j m'.0) × (r ≢ st.first → m'.0 ≡ m.0)

  -- a refusal, where the word that was found decides it
  abbrev pub refused : (most limit request : ℕ) → Step S → Me S View → ℕ → Me S View → Type 0
  refused most l j st m r m' = (m'.1 ≡ m.1) × (IsFull most r → m'.0 ≡ called m.0 (call_at (count_in r) l j (Enter Refused))) × (HasRoom most r → m'.0 ≡ m.0)

  -- a leaving
  abbrev pub went : (limit request : ℕ) → Step S → Me S View → ℕ → Me S View → Type 0
  went l j st m r m' = (m'.1 ≡ m.1) × (m'.0 ≡ called m.0 (call_at (count_in r) l j Leave))

-- what the word that was read at the deciding step says
abbrev pub Decided : (most word : ℕ) → Verdict → Type 0
Decided most word Admitted = HasRoom most word
Decided most word Refused = IsFull most word

-- an entering call, by the word that its deciding step found
abbrev pub Entered : (most limit request : ℕ) → Verdict → View → View → Type 0
Entered most l j verdict v w = (word : ℕ) × Decided most word verdict × (w ≡ called v (call_at (count_in word) l j (Enter verdict)))

-- a leaving call
abbrev pub Left : (limit request : ℕ) → View → View → Type 0
Left l j v w = (n : ℕ) × (w ≡ called v (call_at n l j Leave))
