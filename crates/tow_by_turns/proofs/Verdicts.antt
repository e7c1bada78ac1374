-- A verdict comes, or the leaving of a limit is noted.
use Rattle.std.proofs.Common.{◌≡◌, ◌<◌, ◌≤◌, ℕ, pred, List, [], ◌∷◌, ◌++◌, length, Option, Some, None, refl, sym, ap, subst, ◌∙◌, arith}
use Rattle.tow_model.specs.declared.account.Call.{Call}
use Rattle.tow_model.specs.declared.account.End.{End}
use Rattle.tow_model.specs.Dates.{first_undated}
use Rattle.tow_model.specs.declared.account.Verdict.{Verdict}
use Rattle.tow_model.specs.declared.account.Verdict.TheVariants.{Admitted, Refused}
use Rattle.tow_model.specs.declared.account.What.{What}
use Rattle.tow_model.specs.declared.account.What.TheVariants.{Enter, Leave}
use Rattle.tow_model.specs.declared.statement.Statement.{Statement}
use Rattle.tow_semantics.specs.Files.{Files}
use Rattle.tow_exchange.specs.Exchanges.{ExchangeData, verdict_given}
use Rattle.tow_exchange.specs.declared.phase.Phase.TheVariants.{AwaitsVerdict}
use Rattle.tow_closing.specs.Closings.{ClosingData}
use Rattle.tow_peer.specs.Links.{LinkData}
use Rattle.tow_port.specs.declared.port.Port.{Port}
use Rattle.tow_progress.specs.Steps.{heard}
use Rattle.tow_progress.specs.Accounts.{called, entered, released}
use Rattle.tow_states.specs.Known.{Setting}
use Rattle.tow_states.specs.Calling.{HasPlaces, HasPlacesFor}
use Rattle.tow_states.proofs.Calls.{calls_have_places}
use Rattle.tow_walks.proofs.Sendable.{verdicts_stay_sendable}
use Rattle.tow_stages.specs.Stages.{closing, walking}
use Rattle.tow_stages.specs.Stages as model
use Rattle.tow_stages.specs.Walking.{with_verdict}
use Rattle.tow_stages.specs.Closing.{with_leaving}
use Rattle.tow_stages.proofs.Walks.{walkings_lead_on}
use Rattle.tow_stages.proofs.Closes.{closings_lead_on}
use Rattle.tow_turns.specs.Data.{base_of, port_of}
use Rattle.tow_turns.specs.Safe.{IsSafe, IsWritten, calls_of}
use Rattle.tow_turns.specs.Steps.{Leads}
use Rattle.tow_turns.specs.declared.base.Base.{Base}
use Rattle.tow_by_turns.specs.Limits.{Notes}
use Rattle.tow_by_turns.proofs.Rooms.{rebased}

-- the call that was noted, of the open request
noted_is : {L : Type 0} (limit : ℕ) (what : What) (old new : Base L) (j : ℕ) → Notes limit what old new → old.begun ≡ j
    → new.calls.items ≡ old.calls.items ++ record { limit = limit; request = j; what = what } ∷ []
noted_is limit what old new j notes is =
    notes.calls ∙ ap (λ (n : ℕ). old.calls.items ++ record { limit = limit; request = n; what = what } ∷ []) is

-- ---- a verdict

pub hears_on : {L : Type 0} (shows : L → LinkData) (s : Setting) (old new : Base L) (e : ExchangeData) (limit : ℕ) (verdict : Verdict)
    → e.phase ≡ AwaitsVerdict limit → Notes limit (Enter verdict) old new
    → Leads s (base_of shows old) (base_of shows new) (walking e) (walking (verdict_given limit verdict e))
hears_on shows s old new e limit verdict waits notes failed o c t h = record {
  progress = heard verdict c;
  tally = called (entered limit c verdict) t;
  holds = rebased failed s o (with_verdict limit verdict c (base_of shows old)) (base_of shows new) (walking (verdict_given limit verdict e))
      (heard verdict c) (called (entered limit c verdict) t) notes.number notes.begun (ap (λ (p : Port _). port_of shows p) notes.port)
      (noted_is limit (Enter verdict) old new c.request notes h.holds.0.served.begun) notes.silent notes.room
      ((walkings_lead_on failed s o (base_of shows old) e c t h).hears limit verdict waits);
  same_lines = refl;
}

given_connection : (limit : ℕ) (verdict : Verdict) (e : ExchangeData) → (verdict_given limit verdict e).connection ≡ e.connection
given_connection limit Admitted e = refl
given_connection limit Refused e = refl

given_moment : (limit : ℕ) (verdict : Verdict) (e : ExchangeData) → (verdict_given limit verdict e).moment ≡ e.moment
given_moment limit Admitted e = refl
given_moment limit Refused e = refl

-- one more call, and as many places or more
places_noted : (tree : List Statement) (b b' : model.Base) (call : Call) (e : ExchangeData) (asks : ℕ) → b'.calls ≡ b.calls ++ call ∷ []
    → b.room ≤ b'.room → HasPlaces tree b.room (called call (calls_of b)) e asks → HasPlaces tree b'.room (calls_of b') e asks
places_noted tree b b' call e asks calls more has = record {
  asks_few = has.asks_few;
  places = omega (arith, has.places, ap (λ (l : List Call). length l) calls, more);
}

pub hears_safe : {L : Type 0} (shows : L → LinkData) (tree : List Statement) (told : Option Files) (old new : Base L) (e : ExchangeData)
    (limit : ℕ) (verdict : Verdict) → e.phase ≡ AwaitsVerdict limit → Notes limit (Enter verdict) old new
    → IsSafe tree told (base_of shows old) (walking e) → IsSafe tree told (base_of shows new) (walking (verdict_given limit verdict e))
hears_safe shows tree told old new e limit verdict waits notes (is, out) = (
  record {
    connection = given_connection limit verdict e ∙ is.connection ∙ sym notes.number;
    dated = subst (λ (m : ℕ). m < first_undated) (sym (given_moment limit verdict e)) is.dated;
    sendable = verdicts_stay_sendable told e limit verdict waits is.sendable;
    asks = pred is.asks;
    places = places_noted tree (base_of shows old) (base_of shows new) (record { limit = limit; request = old.begun; what = Enter verdict })
        (verdict_given limit verdict e) (pred is.asks) notes.calls notes.room
        ((calls_have_places tree (base_of shows old).room (calls_of (base_of shows old))).hears e limit is.asks verdict
        (record { limit = limit; request = old.begun; what = Enter verdict }) waits is.places);
  },
  ap (λ (p : Port _). p.output.items) notes.port ∙ out,
)

-- ---- a leaving

pub leaves_on : {L : Type 0} (shows : L → LinkData) (s : Setting) (old new : Base L) (d : ClosingData) (owed : Option ℕ) (end : Option End)
    (limit : ℕ) → owed ≡ Some limit → Notes limit Leave old new
    → Leads s (base_of shows old) (base_of shows new) (closing d owed end) (closing d None end)
leaves_on shows s old new d owed end limit owes notes failed o c t h = record {
  progress = c;
  tally = called (released limit c) t;
  holds = rebased failed s o (with_leaving limit c (base_of shows old)) (base_of shows new) (closing d None end) c
      (called (released limit c) t) notes.number notes.begun (ap (λ (p : Port _). port_of shows p) notes.port)
      (noted_is limit Leave old new c.request notes h.holds.0.begun) notes.silent notes.room
      ((closings_lead_on failed s o (base_of shows old) d owed end c t h).releases limit owes);
  same_lines = refl;
}

written_noted : {L : Type 0} (shows : L → LinkData) (old new : Base L) (end : Option End) → new.port ≡ old.port → IsWritten end (base_of shows old)
    → IsWritten end (base_of shows new)
written_noted shows old new None same is = ap (λ (p : Port _). p.output.items) same ∙ is
written_noted shows old new (Some end) same is = tt

pub leaves_safe : {L : Type 0} (shows : L → LinkData) (tree : List Statement) (told : Option Files) (old new : Base L) (d : ClosingData)
    (owed : Option ℕ) (end : Option End) (limit : ℕ) → owed ≡ Some limit → Notes limit Leave old new
    → IsSafe tree told (base_of shows old) (closing d owed end) → IsSafe tree told (base_of shows new) (closing d None end)
leaves_safe shows tree told old new d None end limit owes notes is = cc
leaves_safe shows tree told old new d (Some which) end limit owes notes (places, out) =
    let call : Call = record { limit = limit; request = old.begun; what = Leave } in
    let left : HasPlacesFor (base_of shows old).room (called call (calls_of (base_of shows old))) d.completed.left =
    (calls_have_places tree (base_of shows old).room (calls_of (base_of shows old))).leaves which d.completed.left call places in
    (omega (arith, left, ap (λ (l : List Call). length l) notes.calls, notes.room), written_noted shows old new end notes.port out)
