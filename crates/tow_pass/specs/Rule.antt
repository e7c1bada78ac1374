-- What holds of the limits' words and of the passes, between any two steps.
use Rattle.std.specs.Prelude.{ℕ, suc, ◌+◌, ◌*◌, ◌<◌, ◌≤◌, ◌==◌, ◌≡◌, ◌≢◌, true, cond, List, [], ◌∷◌, length, take, Option, Some, None, slice_get, slice_index_or}
use mathlib.Core.Option.{some}
use lib.ListN.{get_elem?}
use Rattle.std.specs.List.{AllByRecursion as Each}
use Rattle.atomic_table.specs.Table.{State}
use Rattle.tow_model.specs.declared.account.Bound.{Bound}
use Rattle.tow_history.specs.declared.entry.Entry.{Entry}
use Rattle.tow_history.specs.Deed.{deed_of, queue_of, counters_end}
use Rattle.tow_history.specs.Legal.{May, state_after, legal_at}
use Rattle.tow_history.specs.Histories.{refusals}
use Rattle.tow_pass.specs.declared.view.View.{View}
use Rattle.tow_pass.specs.Calls.{Numbered, Of_main, Of_connection, was_refused, at_limit, entries, seen, in_order, requests_rise}
use Rattle.tow_pass.specs.Views.{kept_of}

-- how many may be inside at most, so that their number fits a word beside the other one
abbrev pub most_inside : ℕ
most_inside = 65535

-- a limit's word: how many admissions and leavings there were, and how many are inside
abbrev pub word_of : (count inside : ℕ) → ℕ
word_of count inside = count * 65536 + inside

-- what connection k did, of these admissions and leavings, each with its place among all, from n on
abbrev pub numbered : (k n : ℕ) → List Entry → List Numbered
numbered k n [] = []
numbered k n (e ∷ log) = cond (e.connection == k) (record { number = n; call = e.call } ∷ numbered k (suc n) log) (numbered k (suc n) log)

-- a refusal was right after the first admissions and leavings, as many as its number says
abbrev pub IsRight : Bound → List Entry → (k : ℕ) → Numbered → Type 0
IsRight b log k c = was_refused c ≡ true → (c.number ≤ length log) × May b.most (queue_of b) (state_after (take c.number log)) (k, c.call.request) (deed_of c.call.what)

-- A limit with its word, and the calls of each pass at it. There is one list of all its admissions and leavings.
pub record LimitRule (b : Bound) (word : ℕ) (calls : ℕ → List Numbered) : Type 0 where
  pub log : List Entry
  pub word_is : word ≡ word_of (length log) (length (state_after log).inside)
  pub legal : legal_at b log
  pub no_refusal : refusals log ≡ 0
  pub small : length log + length (state_after log).inside ≤ counters_end + most_inside
  -- each of them is in exactly one pass, under its number
  pub made : (k : ℕ) → entries (calls k) ≡ numbered k 0 log
  pub refused : (k : ℕ) → Each (IsRight b log k) (calls k)
  pub ordered : (k : ℕ) → in_order 0 (calls k)
  pub known : (k : ℕ) → seen 0 (calls k) ≤ length log

-- where the pass of a number is
pub data Place : Type 0 where
  Not_issued : Place
  Out : (seat : ℕ) → Place
  Collected : Place

-- what main's pass keeps of it
abbrev pub kept_at : Place → List Numbered → Option (List Numbered)
kept_at Not_issued cs = None
kept_at (Out seat) cs = None
kept_at Collected cs = Some cs

-- what a seat's view says
pub record Knows (place : ℕ → Place) (calls : ℕ → List Numbered) (issued main id : ℕ) (v : View) : Type 0 where
  pub is_out : (k : ℕ) → v.holder ≡ Of_connection k → place k ≡ Out id
  pub its_calls : (k : ℕ) → v.holder ≡ Of_connection k → calls k ≡ v.calls
  pub is_main : v.holder ≡ Of_main → id ≡ main
  pub issues : v.holder ≡ Of_main → v.issued ≡ issued
  pub keeps : v.holder ≡ Of_main → (k : ℕ) → kept_of k v.kept ≡ kept_at (place k) (calls k)

-- the rule of the limits
pub record PassRule {S : Type 0} (bounds : List Bound) (s : State S View) : Type 0 where
  -- the calls of each pass, by its number
  pub calls : ℕ → List Numbered
  pub place : ℕ → Place
  pub issued : ℕ
  pub main : ℕ
  pub wide : length s.words ≡ suc (length bounds)
  pub own_word : slice_index_or s.words 0 0 ≡ 0
  pub each_limit : (l : ℕ) (b : Bound) → slice_get bounds l ≡ Some b → LimitRule b (slice_index_or s.words (suc l) 0) (λ k. at_limit l (calls k))
  pub within : (k : ℕ) → Each (λ c. c.call.limit < length bounds) (calls k)
  pub requests : (k : ℕ) → requests_rise 0 (calls k)
  pub not_issued : (k : ℕ) → issued ≤ k → (place k ≡ Not_issued) × (calls k ≡ [])
  pub was_issued : (k : ℕ) → k < issued → place k ≢ Not_issued
  pub out : (k seat : ℕ) → place k ≡ Out seat → (v : View) × (get_elem? s.views seat ≡ some v) × (v.holder ≡ Of_connection k)
  pub each_view : (id : ℕ) (v : View) → get_elem? s.views id ≡ some v → Knows place calls issued main id v
