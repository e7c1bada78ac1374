-- What contracts see of an exchange, and how it goes on.
use Rattle.std.specs.Prelude.{ℕ, zero, suc, List}
use Rattle.tow_model.specs.declared.request.Field.{Field}
use Rattle.tow_model.specs.declared.request.Request.{Request}
use Rattle.tow_model.specs.declared.record.Record.{Record}
use Rattle.tow_model.specs.declared.account.Verdict.{Verdict}
use Rattle.tow_model.specs.declared.action.Action.{Action}
use Rattle.tow_model.specs.declared.content.Content.{Content}
use Rattle.tow_model.specs.declared.limits.TheConstants.{MAX_RESTARTS}
use Rattle.tow_semantics.specs.Steps.{Step, Go, Stop, answered, on_verdict, on_content}
use Rattle.tow_semantics.specs.Pages.{Found, on_found}
use Rattle.tow_semantics.specs.Plans.{Mark, Free, Passed, Worked, Stand, moved, marked, after_step, without_context, opening_stand}
use Rattle.tow_exchange.specs.declared.dispatch.Dispatch.{Dispatch}
use Rattle.tow_exchange.specs.declared.dispatch.Dispatch.TheVariants as dispatch
use Rattle.tow_exchange.specs.declared.phase.Phase.{Phase}
use Rattle.tow_exchange.specs.declared.phase.Phase.TheVariants.{Running, Stopped}
use Rattle.tow_exchange.specs.declared.place.Place.{Place}
use Rattle.tow_exchange.specs.declared.place.Place.TheVariants.{InText, AtDefault}

-- an exchange as contracts see it
pub record ExchangeData : Type 0 where
  -- the numbers of its connection and, in that, of its request
  pub connection : ℕ
  pub number : ℕ
  pub request : Request
  -- the second since 1970
  pub moment : ℕ
  -- its record, and whether only a worker may go on with it
  pub stand : Stand
  -- what it waits for
  pub phase : Phase
  -- where it goes on, and how many restarts it may still make
  pub place : Place
  pub restarts_left : ℕ

abbrev pub mark_of : Dispatch → Mark
mark_of dispatch.Anyone = Free
mark_of dispatch.Passed = Passed
mark_of dispatch.Worked = Worked

-- as it is made: at the first instruction of its text, with all restarts left, and waiting for nothing
abbrev pub opened : ℕ → ℕ → Request → ℕ → ExchangeData
opened k j q m = record {
  connection = k;
  number = j;
  request = q;
  moment = m;
  stand = opening_stand q;
  phase = Running;
  place = InText 0;
  restarts_left = MAX_RESTARTS;
}

-- with another record
abbrev pub with_state : Record → ExchangeData → ExchangeData
with_state x e = record e { stand = moved x e.stand }

-- THROUGH THE TEXT

-- at another place
abbrev pub moved_to : Place → ExchangeData → ExchangeData
moved_to place e = record e { place = place }

-- after an action, but for what that does to the record
abbrev pub after : Action → ExchangeData → ExchangeData
after a e = record e { stand = marked a e.stand }

-- after a predicate, but for what that does to the record
abbrev pub after_test : ExchangeData → ExchangeData
after_test e = record e { stand = record e.stand { mark = after_step e.stand.mark } }

-- waiting for this, to go on at the place
abbrev pub waiting : Phase → Place → ExchangeData → ExchangeData
waiting phase place e = record e { phase = phase; place = place }

-- its answer is decided
abbrev pub stopped : ExchangeData → ExchangeData
stopped e = record e { phase = Stopped }

-- decided with this status and no content
abbrev pub stopped_with : ℕ → ExchangeData → ExchangeData
stopped_with status e = stopped (with_state (answered status e.stand.state) e)

-- from the beginning of the text, without its bindings, where so many restarts were left; one more answers 500
abbrev pub begun_again : ℕ → ExchangeData → ExchangeData
begun_again zero e = stopped_with 500 e
begun_again (suc left) e = record e { stand = without_context e.stand; place = InText 0; restarts_left = left }

-- WHEN WHAT IT WAITS FOR IS GIVEN

-- The mark once the step that was waited for is taken. The default handler's look is no step of the text.
abbrev pub mark_after : Place → Mark → Mark
mark_after (InText at) mark = after_step mark
mark_after AtDefault mark = mark

abbrev pub step_taken : Step → ExchangeData → ExchangeData
step_taken (Go x) e = record e { stand = record { state = x; mark = mark_after e.place e.stand.mark }; phase = Running }
step_taken (Stop x) e = record e { stand = record { state = x; mark = mark_after e.place e.stand.mark }; phase = Stopped }

abbrev pub verdict_given : ℕ → Verdict → ExchangeData → ExchangeData
verdict_given limit v e = step_taken (on_verdict limit v e.stand.state) e

abbrev pub content_given : Content → ExchangeData → ExchangeData
content_given c e = step_taken (on_content c e.stand.state) e

abbrev pub page_given : Found → ExchangeData → ExchangeData
page_given p e = step_taken (on_found p e.stand.state) e

-- with other fields of its record
abbrev pub with_fields : List Field → ExchangeData → ExchangeData
with_fields fields e = record e { stand = record e.stand { state = record e.stand.state { fields = fields } } }
