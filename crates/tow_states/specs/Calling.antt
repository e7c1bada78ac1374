-- How many calls of limits the open request may still make.
use Rattle.std.specs.Prelude.{◌≡◌, ℕ, suc, pred, ◌+◌, ◌*◌, ◌<◌, ◌≤◌, Bool, true, false, List, ◌∷◌, length, reverse, count_by}
use Rattle.tow_model.specs.declared.request.Request.{Request}
use Rattle.tow_model.specs.declared.record.Listener.{Listener}
use Rattle.tow_model.specs.declared.record.Listener.TheVariants.{Leave, Log}
use Rattle.tow_model.specs.declared.account.Call.{Call}
use Rattle.tow_model.specs.declared.account.Verdict.{Verdict}
use Rattle.tow_model.specs.declared.content.Content.{Content}
use Rattle.tow_model.specs.declared.limits.TheConstants.{MAX_RESTARTS}
use Rattle.tow_model.specs.declared.statement.Statement.{Statement}
use Rattle.tow_semantics.specs.Listeners.{bounds_of}
use Rattle.tow_semantics.specs.Pages.{Found}
use Rattle.tow_semantics.specs.Plans.{Plan, Over, AwaitVerdict, AwaitContent, AwaitPage}
use Rattle.tow_exchange.specs.Exchanges.{ExchangeData, content_given, opened, page_given, verdict_given}
use Rattle.tow_exchange.specs.declared.phase.Phase.TheVariants.{AwaitsVerdict, AwaitsContent, AwaitsPage}
use Rattle.tow_program.specs.Programs.{program_of}
use Rattle.tow_advance.specs.Moves.{AddsLogs}
use Rattle.tow_advance.specs.Under.{plan_in}
use Rattle.tow_progress.specs.Accounts.{Tally, called}
use Rattle.tow_course.specs.Course.{Advances}

-- whatever it is given, the plan asks limits so often at most
abbrev pub AsksAtMost : Plan → ℕ → Type 0
AsksAtMost (Over s) n = Unit {0}
AsksAtMost (AwaitVerdict limit s go) n = (less : ℕ) × (n ≡ suc less) × ((v : Verdict) → AsksAtMost (go v) less)
AsksAtMost (AwaitContent s go) n = (content : Content) → AsksAtMost (go content) n
AsksAtMost (AwaitPage location listing s go) n = (found : Found) → AsksAtMost (go found) n

-- an exchange asks each limit of its text once at most in each pass
abbrev pub most_asks : List Statement → ℕ
most_asks tree = suc MAX_RESTARTS * length (bounds_of tree)

abbrev pub is_leaving : Listener → Bool
is_leaving (Leave limit) = true
is_leaving (Log number) = false

abbrev pub leavings : List Listener → ℕ
leavings listeners = count_by is_leaving listeners

-- A list of calls of this length has places for all that the exchange may still make: it leaves each limit that it enters.
pub record HasPlaces (tree : List Statement) (room : ℕ) (t : Tally) (e : ExchangeData) (asks : ℕ) : Type 0 where
  pub asks_few : AsksAtMost (plan_in (program_of tree) e) asks
  pub places : length t.calls + (2 * asks + leavings e.stand.state.listeners) ≤ room

-- It has places for the leavings of these listeners.
abbrev pub HasPlacesFor : ℕ → Tally → List Listener → Type 0
HasPlacesFor room t listeners = length t.calls + leavings listeners ≤ room

-- ---- law

-- How the places are used up.
pub record PlacesAreKept (tree : List Statement) (room : ℕ) (t : Tally) : Type 0 where
  -- 34 places for each limit are enough for a request
  pub opens : (k j : ℕ) (q : Request) (m : ℕ) → length t.calls + 2 * most_asks tree ≤ room
      → HasPlaces tree room t (opened k j q m) (most_asks tree)
  pub advances : (old new : ExchangeData) (asks : ℕ) → Advances tree old new → HasPlaces tree room t old asks
      → HasPlaces tree room t new asks
  -- an exchange that waits for a verdict has a place for it
  pub has_place : (e : ExchangeData) (limit asks : ℕ) → e.phase ≡ AwaitsVerdict limit → HasPlaces tree room t e asks
      → length t.calls < room
  pub hears : (e : ExchangeData) (limit asks : ℕ) (verdict : Verdict) (call : Call) → e.phase ≡ AwaitsVerdict limit
      → HasPlaces tree room t e asks → HasPlaces tree room (called call t) (verdict_given limit verdict e) (pred asks)
  pub reads : (e : ExchangeData) (content : Content) (asks : ℕ) → e.phase ≡ AwaitsContent → HasPlaces tree room t e asks
      → HasPlaces tree room t (content_given content e) asks
  pub looks : (e : ExchangeData) (location : List ℕ) (listing : Bool) (found : Found) (asks : ℕ)
      → e.phase ≡ AwaitsPage location listing → HasPlaces tree room t e asks → HasPlaces tree room t (page_given found e) asks
  -- once it completes, its leavings alone are to come; a call of `advance` that found no memory may have added logs
  pub completes : (e : ExchangeData) (asks : ℕ) (listeners : List Listener) → HasPlaces tree room t e asks
      → AddsLogs e.stand.state.listeners listeners → HasPlacesFor room t (reverse listeners)
  pub has_place_to_leave : (limit : ℕ) (left : List Listener) → HasPlacesFor room t (Leave limit ∷ left)
      → length t.calls < room
  pub leaves : (limit : ℕ) (left : List Listener) (call : Call) → HasPlacesFor room t (Leave limit ∷ left)
      → HasPlacesFor room (called call t) left

abbrev pub CallsHavePlaces : Type 0
CallsHavePlaces = (tree : List Statement) (room : ℕ) (t : Tally) → PlacesAreKept tree room t
