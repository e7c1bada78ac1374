-- What an exchange needs next, by its plan and the role that goes on with it.
use Rattle.std.specs.Prelude.{◌≡◌, Bool, true, false, List}
use Rattle.tow_model.specs.declared.account.Role.{Role}
use Rattle.tow_model.specs.declared.account.Role.TheVariants.{Loop}
use Rattle.tow_semantics.specs.Plans.{Mark, Free, Worked, Stand, Plan, Over, AwaitVerdict, AwaitContent, AwaitPage}
use Rattle.tow_exchange.specs.Exchanges.{ExchangeData}
use Rattle.tow_exchange.specs.declared.phase.Phase.{Phase}
use Rattle.tow_exchange.specs.declared.phase.Phase.TheVariants.{Stopped}
use Rattle.tow_program.specs.declared.instruction.Instruction.{Instruction}
use Rattle.tow_advance.specs.declared.next.Next.{Next}
use Rattle.tow_advance.specs.declared.next.Next.TheVariants.{Stop, AskLimit, NeedContent, NeedFolder, NeedWorker}
use Rattle.tow_advance.specs.Under.{plan_in}
use Rattle.tow_advance.specs.Moves.{with_context}

-- whether a worker alone may go on
abbrev pub is_for_worker : Mark → Bool
is_for_worker Free = false
is_for_worker other = true

-- a loop hands on what is a worker's
abbrev pub for_role : Role → Bool → Next → Next
for_role (Loop i) true need = NeedWorker
for_role other for_worker need = need

-- the need that stands first in a plan; a look into the folder, and what follows a `blocking`, is a worker's
abbrev pub first_need : Role → Plan → Next
first_need role (Over s) = for_role role (is_for_worker s.mark) Stop
first_need role (AwaitVerdict limit s go) = for_role role (is_for_worker s.mark) (AskLimit limit)
first_need role (AwaitContent s go) = for_role role (is_for_worker s.mark) NeedContent
first_need role (AwaitPage location listing s go) = for_role role true (NeedFolder location listing)

-- the need of an exchange; one that has stopped needs nothing
abbrev pub need_at : Phase → Role → Plan → Next
need_at Stopped role plan = Stop
need_at other role plan = first_need role plan

abbrev pub need_in : List Instruction → Role → ExchangeData → Next
need_in program role e = need_at e.phase role (plan_in program e)

-- where an exchange stands when the first need of its plan is met
abbrev pub first_stand : Plan → Stand
first_stand (Over s) = s
first_stand (AwaitVerdict limit s go) = s
first_stand (AwaitContent s go) = s
first_stand (AwaitPage location listing s go) = s

-- WHAT A LOOP LEAVES TO A WORKER

-- A loop leaves what is a worker's as it is, and takes no step after a `blocking` that it passes.
abbrev pub StaysForWorker : Role → Mark → ExchangeData → ExchangeData → Type 0
StaysForWorker (Loop i) Free old new = new.stand.mark ≡ Worked → ⊥
StaysForWorker (Loop i) other old new = new ≡ old
StaysForWorker other mark old new = Unit {0}

-- WANT OF MEMORY

-- An exchange on the way of the plan, but for the bindings of a test whose step was not taken.
abbrev pub IsUnderWay : List Instruction → ExchangeData → ExchangeData → Type 0
IsUnderWay program old new =
    (e : ExchangeData) × (plan_in program e ≡ plan_in program old)
    × (new ≡ with_context new.stand.state.context e)
