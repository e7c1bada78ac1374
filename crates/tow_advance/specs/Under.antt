-- The plan of an exchange under a program: what is left of it from where it stands.
use Rattle.std.specs.Prelude.{◌≡◌, ℕ, Bool, List}
use Rattle.tow_model.specs.declared.request.Request.{Request}
use Rattle.tow_model.specs.declared.account.Verdict.{Verdict}
use Rattle.tow_model.specs.declared.statement.Statement.{Statement}
use Rattle.tow_model.specs.Texts.{Text}
use Rattle.tow_semantics.specs.Steps.{answered, on_verdict, on_content}
use Rattle.tow_semantics.specs.Pages.{on_found}
use Rattle.tow_semantics.specs.Plans.{Stand, Plan, Over, AwaitVerdict, AwaitContent, AwaitPage, Way, take_step, over, exchange_plan}
use Rattle.tow_semantics.specs.Walk.{Given}
use Rattle.tow_semantics.specs.Outcome.{outcome, opening, played}
use Rattle.tow_exchange.specs.Exchanges.{ExchangeData, content_given, mark_after, opened, page_given, verdict_given}
use Rattle.tow_exchange.specs.declared.phase.Phase.{Phase}
use Rattle.tow_exchange.specs.declared.phase.Phase.TheVariants.{Running, AwaitsVerdict, AwaitsContent, AwaitsPage, Stopped}
use Rattle.tow_exchange.specs.declared.place.Place.{Place}
use Rattle.tow_exchange.specs.declared.place.Place.TheVariants.{InText, AtDefault}
use Rattle.tow_program.specs.declared.instruction.Instruction.{Instruction}
use Rattle.tow_program.specs.Programs.{program_of}
use Rattle.tow_program.specs.Runs.{way_in}

-- the way from a place on, where so many restarts are left
abbrev pub way_at : List Instruction → Request → ℕ → ℕ → Place → Way
way_at program q m left (InText at) = way_in program q m left at
way_at program q m left AtDefault = λ s. over (answered 404 s.state) s

-- the stand once the step is taken that is waited for, but for what that does to the record
abbrev pub given_at : Place → Stand → Stand
given_at place s = record s { mark = mark_after place s.mark }

-- an exchange goes on by what it is given
abbrev pub plan_at : Phase → Place → Stand → Way → Plan
plan_at Running place s next = next s
plan_at (AwaitsVerdict limit) place s next = AwaitVerdict limit s (λ v. take_step (on_verdict limit v s.state) next (given_at place s))
plan_at AwaitsContent place s next = AwaitContent s (λ c. take_step (on_content c s.state) next (given_at place s))
plan_at (AwaitsPage location listing) place s next =
    AwaitPage location listing s (λ p. take_step (on_found p s.state) next (given_at place s))
plan_at Stopped place s next = Over s

abbrev pub plan_in : List Instruction → ExchangeData → Plan
plan_in program e = plan_at e.phase e.place e.stand (way_at program e.request e.moment e.restarts_left e.place)

-- HOW IT BEGINS

-- a new exchange has the plan of its text
abbrev pub OpenedPlan : Type 0
OpenedPlan =
    (tree : List Statement) (k j : ℕ) (q : Request) (m : ℕ) → plan_in (program_of tree) (opened k j q m) ≡ exchange_plan tree q m

-- and, played to its end, comes to the outcome
abbrev pub OpenedOutcome : Type 0
OpenedOutcome =
    (tree : List Statement) (g : Given) (verdicts : List Verdict) (k j : ℕ) →
    played g (plan_in (program_of tree) (opened k j g.request g.moment)) (opening verdicts) ≡ outcome tree g verdicts

-- HOW IT GOES ON

abbrev pub StoppedPlan : Type 0
StoppedPlan = (program : List Instruction) (e : ExchangeData) → e.phase ≡ Stopped → plan_in program e ≡ Over e.stand

abbrev pub VerdictPlan : Type 0
VerdictPlan =
    (program : List Instruction) (e : ExchangeData) (limit : ℕ) → e.phase ≡ AwaitsVerdict limit →
    plan_in program e ≡ AwaitVerdict limit e.stand (λ v. plan_in program (verdict_given limit v e))

abbrev pub ContentPlan : Type 0
ContentPlan =
    (program : List Instruction) (e : ExchangeData) → e.phase ≡ AwaitsContent →
    plan_in program e ≡ AwaitContent e.stand (λ c. plan_in program (content_given c e))

abbrev pub PagePlan : Type 0
PagePlan =
    (program : List Instruction) (e : ExchangeData) (location : Text) (listing : Bool) → e.phase ≡ AwaitsPage location listing →
    plan_in program e ≡ AwaitPage location listing e.stand (λ p. plan_in program (page_given p e))
