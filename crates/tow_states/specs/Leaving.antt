-- The limits that the open request is inside: those that its listeners leave. It is so whatever the link, the folder and the
-- clock tell.
use Rattle.std.specs.Prelude.{◌≡◌, ℕ, suc, List, [], ◌∷◌, ◌++◌, reverse, Option, Some, None}
use Rattle.tow_model.specs.declared.request.Field.{Field}
use Rattle.tow_model.specs.declared.request.Request.{Request}
use Rattle.tow_model.specs.declared.record.Listener.{Listener}
use Rattle.tow_model.specs.declared.record.Listener.TheVariants.{Leave}
use Rattle.tow_model.specs.declared.account.Call.{Call}
use Rattle.tow_model.specs.declared.account.Verdict.{Verdict}
use Rattle.tow_model.specs.declared.account.What.TheVariants as what
use Rattle.tow_model.specs.declared.content.Content.{Content}
use Rattle.tow_model.specs.Texts.{Text}
use Rattle.tow_semantics.specs.Pages.{Found}
use Rattle.tow_exchange.specs.Exchanges.{ExchangeData, content_given, opened, page_given, verdict_given, with_fields}
use Rattle.tow_advance.specs.Moves.{AddsLogs}
use Rattle.tow_closing.specs.Closings.{ClosingData, Does}
use Rattle.tow_closing.specs.declared.work.Work.TheVariants as work
use Rattle.tow_progress.specs.Inside.{KeepsInside, call_of}

-- request j, whose exchange is e, is inside the limits that this has to leave, by the calls that were made
abbrev pub IsInside : ℕ → ExchangeData → List Call → Type 0
IsInside j e made = KeepsInside j (reverse e.stand.state.listeners) made

-- the listeners that are left of an exchange that completes, with the one of which the leaving is owed
abbrev pub left_in : Option ℕ → ClosingData → List Listener
left_in None d = d.completed.left
left_in (Some limit) d = Leave limit ∷ d.completed.left

-- ---- law

-- Each step keeps it.
pub record StaysInside (j : ℕ) (made : List Call) : Type 0 where
  pub opens : (k : ℕ) (q : Request) (m : ℕ) → KeepsInside j [] made → IsInside j (opened k j q m) made
  -- logs alone were added, as by a call of `advance`
  pub adds : (old new : ExchangeData) → AddsLogs old.stand.state.listeners new.stand.state.listeners → IsInside j old made
      → IsInside j new made
  pub hears : (e : ExchangeData) (limit : ℕ) (verdict : Verdict) → IsInside j e made
      → IsInside j (verdict_given limit verdict e) (made ++ call_of limit j (what.Enter verdict) ∷ [])
  pub reads : (e : ExchangeData) (content : Content) → IsInside j e made → IsInside j (content_given content e) made
  pub looks : (e : ExchangeData) (found : Found) → IsInside j e made → IsInside j (page_given found e) made
  pub gains_fields : (e : ExchangeData) (fields : List Field) → IsInside j e made → IsInside j (with_fields fields e) made
  -- its listeners begin to run, and each does its work
  pub completes : (e : ExchangeData) (d : ClosingData) → d.completed.left ≡ reverse e.stand.state.listeners → IsInside j e made
      → KeepsInside j (left_in None d) made
  pub next_leaves : (d new : ClosingData) (limit : ℕ) → Does (work.Leave limit) d new → KeepsInside j (left_in None d) made
      → KeepsInside j (left_in (Some limit) new) made
  pub releases : (d : ClosingData) (limit : ℕ) → KeepsInside j (left_in (Some limit) d) made
      → KeepsInside j (left_in None d) (made ++ call_of limit j what.Leave ∷ [])
  pub tells : (d new : ClosingData) (number : ℕ) (text : Option Text) → Does (work.Tell number text) d new
      → KeepsInside j (left_in None d) made → KeepsInside j (left_in None new) made
  -- none is left, and the next request is open
  pub goes_on : (d : ClosingData) → d.completed.left ≡ [] → KeepsInside j (left_in None d) made → KeepsInside (suc j) [] made

abbrev pub RequestStaysInside : Type 0
RequestStaysInside = (j : ℕ) (made : List Call) → StaysInside j made
