-- The open request stays inside the limits that its listeners leave.
use Rattle.std.proofs.Common.{◌≡◌, ℕ, List, [], ◌∷◌, ◌++◌, map, reverse, Option, Some, None, sym, ap, subst, append-nil, append_assoc}
use Rattle.std.proofs.lemmas.List.{reverse-append}
use Rattle.tow_model.specs.declared.record.Listener.{Listener}
use Rattle.tow_model.specs.declared.record.Listener.TheVariants.{Leave, Log}
use Rattle.tow_model.specs.declared.account.Call.{Call}
use Rattle.tow_model.specs.declared.account.Verdict.{Verdict}
use Rattle.tow_model.specs.declared.account.Verdict.TheVariants.{Admitted, Refused}
use Rattle.tow_model.specs.declared.account.What.TheVariants as what
use Rattle.tow_model.specs.declared.content.Content.{Content}
use Rattle.tow_model.specs.declared.content.Content.TheVariants.{Whole, Bad, TooLong}
use Rattle.tow_model.specs.Texts.{Text}
use Rattle.tow_semantics.specs.Pages.{Found, Serve, Redirect, Listing, Forbidden, NotModified, NotFound, BadMethod}
use Rattle.tow_exchange.specs.Exchanges.{ExchangeData, content_given, page_given, verdict_given}
use Rattle.tow_exchange.specs.Completions.{CompletedData}
use Rattle.tow_advance.specs.Moves.{AddsLogs}
use Rattle.tow_closing.specs.Closings.{ClosingData, Does}
use Rattle.tow_closing.specs.declared.work.Work.TheVariants as work
use Rattle.tow_progress.specs.Inside.{KeepsInside, call_of}
use Rattle.tow_progress.proofs.InsideLemmas.{inside_is_kept}
use Rattle.tow_states.specs.Leaving.{IsInside, RequestStaysInside, left_in}

-- logs are told, and leave no limit
pub logs_inside : (j : ℕ) (made : List Call) (listeners : List Listener) (logs : List ℕ) → KeepsInside j (reverse listeners) made
    → KeepsInside j (reverse (listeners ++ map Log logs)) made
logs_inside j made listeners [] keeps =
    subst (λ (l : List Listener). KeepsInside j (reverse l) made) (sym (append-nil listeners)) keeps
logs_inside j made listeners (log ∷ logs) keeps =
    let more : KeepsInside j (reverse (listeners ++ Log log ∷ [])) made =
    subst (λ (l : List Listener). KeepsInside j l made) (sym (reverse-append listeners (Log log ∷ [])))
    (inside_is_kept.adds_log j (reverse listeners) made log keeps) in
    subst (λ (l : List Listener). KeepsInside j (reverse l) made) (append_assoc listeners (Log log ∷ []) (map Log logs))
    (logs_inside j made (listeners ++ Log log ∷ []) logs more)

pub added_inside : (j : ℕ) (made : List Call) (old new : List Listener) → AddsLogs old new → KeepsInside j (reverse old) made
    → KeepsInside j (reverse new) made
added_inside j made old new adds keeps =
    subst (λ (l : List Listener). KeepsInside j (reverse l) made) (sym adds.1) (logs_inside j made old adds.0 keeps)

module _ (j : ℕ) (made : List Call) where
  abbrev Keeps : List Listener → Type 0
  Keeps listeners = KeepsInside j listeners made

  hear_step : (e : ExchangeData) (limit : ℕ) (verdict : Verdict) → IsInside j e made
      → IsInside j (verdict_given limit verdict e) (made ++ call_of limit j (what.Enter verdict) ∷ [])
  hear_step e limit Admitted inside =
      subst (λ (l : List Listener). KeepsInside j l (made ++ call_of limit j (what.Enter Admitted) ∷ []))
      (sym (reverse-append e.stand.state.listeners (Leave limit ∷ [])))
      (inside_is_kept.admits j (reverse e.stand.state.listeners) made limit inside)
  hear_step e limit Refused inside = inside_is_kept.refuses j (reverse e.stand.state.listeners) made limit inside

  read_step : (e : ExchangeData) (content : Content) → IsInside j e made → IsInside j (content_given content e) made
  read_step e (Whole bytes) inside = inside
  read_step e Bad inside = inside
  read_step e TooLong inside = inside

  look_step : (e : ExchangeData) (found : Found) → IsInside j e made → IsInside j (page_given found e) made
  look_step e (Serve path len second) inside = inside
  look_step e (Redirect to) inside = inside
  look_step e (Listing bytes) inside = inside
  look_step e Forbidden inside = inside
  look_step e (NotModified second) inside = inside
  look_step e NotFound inside = inside
  look_step e BadMethod inside = inside

  leave_next : (d new : ClosingData) (limit : ℕ) → Does (work.Leave limit) d new → Keeps (left_in None d)
      → Keeps (left_in (Some limit) new)
  leave_next d new limit does inside =
      let left : d.completed.left ≡ Leave limit ∷ new.completed.left = ap (λ (x : CompletedData). x.left) does.0 in
      subst Keeps left inside

  tell_next : (d new : ClosingData) (number : ℕ) (text : Option Text) → Does (work.Tell number text) d new → Keeps (left_in None d)
      → Keeps (left_in None new)
  tell_next d new number text does inside =
      let left : d.completed.left ≡ Log number ∷ new.completed.left = ap (λ (x : CompletedData). x.left) does.0 in
      inside_is_kept.tells_one j new.completed.left made number (subst Keeps left inside)

pub request_stays_inside : RequestStaysInside
request_stays_inside j made = record {
  opens = λ k q m none. none;
  adds = λ old new. added_inside j made old.stand.state.listeners new.stand.state.listeners;
  hears = hear_step j made;
  reads = read_step j made;
  looks = look_step j made;
  gains_fields = λ e fields inside. inside;
  completes = λ e d left inside. subst (Keeps j made) (sym left) inside;
  next_leaves = leave_next j made;
  releases = λ d limit inside. inside_is_kept.leaves_one j d.completed.left made limit inside;
  tells = tell_next j made;
  goes_on = λ d done inside. inside_is_kept.goes_on j made (subst (Keeps j made) done inside);
}
