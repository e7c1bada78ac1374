-- The states that a reader can name, and what is true in each of them.
use Rattle.std.specs.Prelude.{ℕ, List, [], reverse, Option}
use Rattle.tow_model.specs.declared.record.Listener.{Listener}
use Rattle.tow_exchange.specs.Exchanges.{ExchangeData}
use Rattle.tow_closing.specs.Closings.{ClosingData}
use Rattle.tow_progress.specs.Progress.{Progress, Origin}
use Rattle.tow_progress.specs.OnWire.{WritesFront}
use Rattle.tow_progress.specs.Whole.{LastThing}
use Rattle.tow_progress.specs.Accounts.{Tally}
use Rattle.tow_progress.specs.Cuts.{CutAt}
use Rattle.tow_progress.specs.Inside.{KeepsInside}
use Rattle.tow_course.specs.Course.{Course}
use Rattle.tow_states.specs.Leaving.{left_in}
use Rattle.tow_states.specs.Known.{Setting, Stands, run_in}
use Rattle.tow_states.specs.Reading.{IsReading, IsRefusing}
use Rattle.tow_states.specs.Walking.{IsWalking}
use Rattle.tow_states.specs.Gathering.{IsGathering}
use Rattle.tow_states.specs.Sending.{IsSending}
use Rattle.tow_states.specs.Closing.{IsClosing, Onward}
use Rattle.tow_states.specs.Ending.{IsAtLast, IsCutOff}

pub data State : Type 0 where
  -- the next head is read
  reading : State
  -- the answer to a head that is refused with this status is put, of which so much is left
  refusing : ℕ → List ℕ → State
  -- the exchange walks through its text, or waits for a verdict, a page, a worker
  walking : ExchangeData → Course → State
  -- it waits for its content, of which so much was taken
  gathering : ExchangeData → Course → List ℕ → State
  -- it has stopped; of its content so much was taken, and of its answer so much is left to put
  sending : ExchangeData → Course → List ℕ → List ℕ → State
  -- its listeners run, of which one may be owed; this follows
  closing : ExchangeData → Course → ClosingData → Option ℕ → Onward → State
  -- all is put, asked and told
  ending : LastThing → State
  -- it was cut, and its listeners have run
  cut : CutAt → State

abbrev pub HoldsIn : Setting → Origin → Progress → Tally → State → Type 0
HoldsIn s o c t reading = IsReading s o c t
HoldsIn s o c t (refusing status to_put) = IsRefusing s o c t status to_put
HoldsIn s o c t (walking e n) = IsWalking s o c t e n
HoldsIn s o c t (gathering e n took) = IsGathering s o c t e n took
HoldsIn s o c t (sending e n took to_put) = IsSending s o c t e n took to_put
HoldsIn s o c t (closing e n d owed onward) = IsClosing s o c t e n d owed onward
HoldsIn s o c t (ending thing) = IsAtLast s o c t thing
HoldsIn s o c t (cut at) = IsCutOff s o c t at

-- the listeners that are still to run, the next one first
abbrev pub to_run : State → List Listener
to_run reading = []
to_run (refusing status to_put) = []
to_run (walking e n) = reverse e.stand.state.listeners
to_run (gathering e n took) = reverse e.stand.state.listeners
to_run (sending e n took to_put) = reverse e.stand.state.listeners
to_run (closing e n d owed onward) = left_in owed d
to_run (ending thing) = []
to_run (cut at) = []

-- What is true in every state.
pub record IsSound (s : Setting) (o : Origin) (c : Progress) (t : Tally) (state : State) : Type 0 where
  pub stands : Stands s o c t
  -- what was written is a front of the wire under the verdicts so far
  pub front : WritesFront (run_in s) c
  -- the open request is inside just the limits that its listeners leave, and no other request is inside one
  pub inside : KeepsInside c.request (to_run state) t.calls

-- ---- law

abbrev pub StatesAreSound : Type 0
StatesAreSound =
    (s : Setting) (o : Origin) (c : Progress) (t : Tally) (state : State) → HoldsIn s o c t state → IsSound s o c t state
