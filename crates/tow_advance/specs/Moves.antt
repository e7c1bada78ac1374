-- One instruction of an exchange under way: the exchange that it leaves.
use Rattle.std.specs.Prelude.{◌≡◌, ◌≢◌, ℕ, suc, ◌+◌, ◌-◌, ◌*◌, ◌<◌, ◌≤◌, min, false, List, [], ◌++◌, map, length, slice_get, if◌then◌else◌, Option, Some, None}
use Rattle.tow_model.specs.declared.request.Field.{Field}
use Rattle.tow_model.specs.declared.record.Choice.{Choice}
use Rattle.tow_model.specs.declared.record.Choice.TheVariants.{Undecided, File}
use Rattle.tow_model.specs.declared.record.Listener.{Listener}
use Rattle.tow_model.specs.declared.record.Listener.TheVariants.{Log}
use Rattle.tow_model.specs.declared.action.Action.{Action}
use Rattle.tow_model.specs.declared.predicate.Test.{Test}
use Rattle.tow_model.specs.Texts.{Text}
use Rattle.tow_semantics.specs.Predicates.{held, test_of}
use Rattle.tow_semantics.specs.Steps.{Go, Stop}
use Rattle.tow_semantics.specs.Effects.{Effect, Takes, Asks, ReadsContent, LooksUp, BeginsAgain, GoesToDefault, effect_of}
use Rattle.tow_semantics.specs.Plans.{Free, Worked}
use Rattle.tow_exchange.specs.Exchanges.{ExchangeData, after, after_test, begun_again, moved_to, stopped, stopped_with, waiting, with_state}
use Rattle.tow_exchange.specs.declared.phase.Phase.{Phase}
use Rattle.tow_exchange.specs.declared.phase.Phase.TheVariants.{Running, AwaitsVerdict, AwaitsContent, AwaitsPage, Stopped}
use Rattle.tow_exchange.specs.declared.place.Place.{Place}
use Rattle.tow_exchange.specs.declared.place.Place.TheVariants.{InText, AtDefault}
use Rattle.tow_program.specs.declared.instruction.Instruction.{Instruction}
use Rattle.tow_program.specs.declared.instruction.Instruction.TheVariants.{Ask, Do, Skip}
use Rattle.tow_advance.specs.Under.{plan_in}

-- the place behind so many of the instructions that follow the one at `at`, or the end of the program
abbrev pub past : List Instruction → ℕ → ℕ → ℕ
past program at passed = min (suc at + passed) (length program)

-- How much is left to do at most: the instructions of this pass, and those of as many whole passes as restarts are left.
abbrev pub left_in : List Instruction → ℕ → Phase → Place → ℕ
left_in program restarts Running (InText at) = restarts * (length program + 2) + (length program - at) + 1
left_in program restarts Running AtDefault = 1
left_in program restarts other place = 0

abbrev pub left_of : List Instruction → ExchangeData → ℕ
left_of program e = left_in program e.restarts_left e.phase e.place

-- The places from here to the end of the program, and those of as many whole passes as restarts are left.
abbrev pub places_from : List Instruction → ℕ → Place → ℕ
places_from program restarts (InText at) = restarts * (length program + 2) + (length program - at) + 1
places_from program restarts AtDefault = 0

-- a place counts twice, since an exchange may wait there before it goes on from there
abbrev pub walk_from : Phase → ℕ → ℕ
walk_from Running places = 2 * places
walk_from Stopped places = 0
walk_from other places = 2 * places + 1

-- How much is left to do at most, with all that is to be waited for. What is given lowers it, and no step raises it.
abbrev pub walk_left : List Instruction → ExchangeData → ℕ
walk_left program e = walk_from e.phase (places_from program e.restarts_left e.place)

-- at the default handler's look for a page
abbrev pub at_default : ExchangeData → ExchangeData
at_default e = waiting (AwaitsPage [] false) AtDefault e

-- after an action, which goes on at `next`
abbrev pub acted : Action → Effect → ℕ → ExchangeData → ExchangeData
acted a (Takes (Go x)) next e = moved_to (InText next) (after a (with_state x e))
acted a (Takes (Stop x)) next e = stopped (after a (with_state x e))
acted a (Asks limit) next e = waiting (AwaitsVerdict limit) (InText next) e
acted a ReadsContent next e = waiting AwaitsContent (InText next) e
acted a (LooksUp location listing) next e = waiting (AwaitsPage location listing) (InText next) e
acted a BeginsAgain next e = begun_again e.restarts_left (after a e)
acted a GoesToDefault next e = at_default (after a e)

-- after a test, which passes over so many instructions
abbrev pub asked : List Instruction → Test → ℕ → ℕ → ℕ → ExchangeData → ExchangeData
asked program test holds fails at e =
    let h = held (test_of test e.request e.stand.state e.moment) e.stand.state in
    moved_to (InText (past program at (if h.holds then holds else fails))) (after_test (with_state h.state e))

-- after the instruction `at`, or at the default handler's look where there is none
abbrev pub taken : List Instruction → Option Instruction → ℕ → ExchangeData → ExchangeData
taken program None at e = at_default e
taken program (Some (Ask test holds fails)) at e = asked program test holds fails at e
taken program (Some (Do a)) at e = acted a (effect_of a e.request e.stand.state e.moment) (suc at) e
taken program (Some (Skip passed)) at e = moved_to (InText (past program at passed)) e

-- with other bindings
abbrev pub with_context : List Field → ExchangeData → ExchangeData
with_context context e = record e { stand = record e.stand { state = record e.stand.state { context = context } } }

-- the listeners, and behind them those of some logs
abbrev pub AddsLogs : List Listener → List Listener → Type 0
AddsLogs old new = (logs : List ℕ) × (new ≡ old ++ map Log logs)

-- As long as its answer is not decided, its record has chosen none.
abbrev pub IsUnchosen : ExchangeData → Type 0
IsUnchosen e = e.phase ≢ Stopped → e.stand.state.choice ≡ Undecided

-- no file of the folder, of whatever path and length
abbrev pub IsNoFile : Choice → Type 0
IsNoFile choice = (path : Text) (len : ℕ) → choice ≢ File path len

-- Its record names no file as its content. Only a page that is given can name one.
abbrev pub NamesNoFile : ExchangeData → Type 0
NamesNoFile e = IsNoFile e.stand.state.choice

-- what a step leaves: less is left to do, the plan and the request stay, and no listener is added but those of logs
pub record Stepped (program : List Instruction) (old new : ExchangeData) : Type 0 where
  pub plan : plan_in program new ≡ plan_in program old
  pub unworked : old.stand.mark ≡ Free → new.stand.mark ≡ Worked → ⊥
  pub nearer : left_of program new < left_of program old
  pub walks : walk_left program new ≤ walk_left program old
  pub adds : AddsLogs old.stand.state.listeners new.stand.state.listeners
  pub unchosen : IsUnchosen old → IsUnchosen new
  pub unfiled : NamesNoFile old → NamesNoFile new
  pub connection : new.connection ≡ old.connection
  pub number : new.number ≡ old.number
  pub request : new.request ≡ old.request
  pub moment : new.moment ≡ old.moment

-- No instruction changes the plan.
abbrev pub TakenPlan : Type 0
TakenPlan =
    (program : List Instruction) (e : ExchangeData) (at : ℕ) → e.phase ≡ Running → e.place ≡ InText at →
    plan_in program (taken program (slice_get program at) at e) ≡ plan_in program e

-- Nor does the default handler where no page was found.
abbrev pub NotFoundPlan : Type 0
NotFoundPlan =
    (program : List Instruction) (e : ExchangeData) → e.phase ≡ Running → e.place ≡ AtDefault →
    plan_in program (stopped_with 404 e) ≡ plan_in program e

-- PAST TESTS THAT FAIL

-- what passing over tests of literal paths that fail leaves: no more is left to do, and the plan, the record and the request stay
pub record PassedOver (program : List Instruction) (old new : ExchangeData) : Type 0 where
  pub plan : plan_in program new ≡ plan_in program old
  pub free : old.stand.mark ≡ Free → new.stand.mark ≡ Free
  pub left : left_of program new ≤ left_of program old
  pub walks : walk_left program new ≤ walk_left program old
  pub state : new.stand.state ≡ old.stand.state
  pub phase : new.phase ≡ old.phase
  pub connection : new.connection ≡ old.connection
  pub number : new.number ≡ old.number
  pub request : new.request ≡ old.request
  pub moment : new.moment ≡ old.moment

-- what a step leaves for which the memory is short: an exchange on the way of the plan, but for the bindings of its test
pub record Halted (program : List Instruction) (old new : ExchangeData) : Type 0 where
  pub way : (e : ExchangeData) × (plan_in program e ≡ plan_in program old) × (new ≡ with_context new.stand.state.context e)
  pub unworked : old.stand.mark ≡ Free → new.stand.mark ≡ Worked → ⊥
  pub walks : walk_left program new ≤ walk_left program old
  pub phase : new.phase ≡ old.phase
  pub listeners : new.stand.state.listeners ≡ old.stand.state.listeners
  pub choice : new.stand.state.choice ≡ old.stand.state.choice
  pub connection : new.connection ≡ old.connection
  pub number : new.number ≡ old.number
  pub request : new.request ≡ old.request
  pub moment : new.moment ≡ old.moment
