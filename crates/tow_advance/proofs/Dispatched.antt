-- What is a worker's stays so: its next need is a worker's.
use Rattle.std.proofs.Common.{◌≡◌, ℕ, zero, suc, Bool, true, false, List, [], ◌∷◌, drop, refl, sym, ap, ◌∙◌, if◌then◌else◌}
use Rattle.tow_model.specs.declared.request.Request.{Request}
use Rattle.tow_model.specs.declared.action.Action.{Action}
use Rattle.tow_model.specs.declared.action.Action.TheVariants.{Set, Clear, Rewrite, Redirect, ResponseCode, Header, AllowedMethods, RequestLimit, Resource, Blocking, AccessLog, Echo, Restart, Done}
use Rattle.tow_model.specs.declared.account.Role.{Role}
use Rattle.tow_model.specs.declared.account.Role.TheVariants.{Main, Loop, Worker}
use Rattle.tow_semantics.specs.Predicates.{held, test_of}
use Rattle.tow_semantics.specs.Steps.{Step, Go, Stop}
use Rattle.tow_semantics.specs.Effects.{Effect, Takes, Asks, ReadsContent, LooksUp, BeginsAgain, GoesToDefault, effect_of}
use Rattle.tow_semantics.specs.Plans.{Mark, Free, Passed, Worked, Stand, Plan, Over, AwaitVerdict, AwaitContent, AwaitPage, Way, Exits, moved, marked, tested, take_step, act, after_action, after_step, without_context}
use Rattle.tow_exchange.specs.Exchanges.{ExchangeData}
use Rattle.tow_exchange.specs.declared.phase.Phase.{Phase}
use Rattle.tow_exchange.specs.declared.phase.Phase.TheVariants as phase
use Rattle.tow_exchange.specs.declared.place.Place.{Place}
use Rattle.tow_exchange.specs.declared.place.Place.TheVariants.{InText, AtDefault}
use Rattle.tow_program.specs.declared.instruction.Instruction.{Instruction}
use Rattle.tow_program.specs.declared.instruction.Instruction.TheVariants.{Ask, Do, Skip}
use Rattle.tow_program.specs.Runs.{run, exits_in}
use Rattle.tow_advance.specs.declared.next.Next.TheVariants as next
use Rattle.tow_advance.specs.Under.{way_at, plan_at, plan_in}
use Rattle.tow_advance.specs.Needs.{is_for_worker, for_role, first_need, first_stand, need_at, StaysForWorker}

-- the way keeps for a worker what is a worker's
abbrev Keeps : Way → Type 0
Keeps w = (s : Stand) → is_for_worker s.mark ≡ true → is_for_worker (first_stand (w s)).mark ≡ true

step_keeps : (step : Step) (w : Way) → Keeps w → (s : Stand) → is_for_worker s.mark ≡ true → is_for_worker (first_stand (take_step step w s)).mark ≡ true
step_keeps (Go x) w keeps s is = keeps (moved x s) is
step_keeps (Stop x) w keeps s is = is

act_keeps : (e : Exits) (effect : Effect) (w : Way) → Keeps e.again → Keeps e.default → Keeps w →
    (s t : Stand) → is_for_worker s.mark ≡ true → is_for_worker t.mark ≡ true → is_for_worker (first_stand (act e effect w s t)).mark ≡ true
act_keeps e (Takes step) w again default keeps s t is after = step_keeps step w keeps t after
act_keeps e (Asks limit) w again default keeps s t is after = is
act_keeps e ReadsContent w again default keeps s t is after = is
act_keeps e (LooksUp location listing) w again default keeps s t is after = is
act_keeps e BeginsAgain w again default keeps s t is after = again t after
act_keeps e GoesToDefault w again default keeps s t is after = default t after

step_marks : (mark : Mark) → is_for_worker mark ≡ true → is_for_worker (after_step mark) ≡ true
step_marks Free is = is
step_marks Passed is = refl
step_marks Worked is = refl

blocking_marks : (mark : Mark) → is_for_worker (after_action Blocking mark) ≡ true
blocking_marks Free = refl
blocking_marks Passed = refl
blocking_marks Worked = refl

action_marks : (a : Action) (mark : Mark) → is_for_worker mark ≡ true → is_for_worker (after_action a mark) ≡ true
action_marks Blocking mark is = blocking_marks mark
action_marks (Set t v) mark is = step_marks mark is
action_marks (Clear t) mark is = step_marks mark is
action_marks (Rewrite v) mark is = step_marks mark is
action_marks (Redirect v) mark is = step_marks mark is
action_marks (ResponseCode n) mark is = step_marks mark is
action_marks (Header n v r) mark is = step_marks mark is
action_marks (AllowedMethods ms) mark is = step_marks mark is
action_marks (RequestLimit n k) mark is = step_marks mark is
action_marks (Resource l k) mark is = step_marks mark is
action_marks (AccessLog n f) mark is = step_marks mark is
action_marks Echo mark is = step_marks mark is
action_marks Restart mark is = step_marks mark is
action_marks Done mark is = step_marks mark is

run_keeps : (q : Request) (m : ℕ) (e : Exits) → Keeps e.again → Keeps e.default → (is : List Instruction) (n : ℕ) → Keeps (run q m e is n)
run_keeps q m e again default [] n s b = default s b
run_keeps q m e again default (i ∷ is) (suc n) s b = run_keeps q m e again default is n s b
run_keeps q m e again default (Ask t holds fails ∷ is) zero s b =
    let h = held (test_of t q s.state m) s.state in
    run_keeps q m e again default is (if h.holds then holds else fails) (tested h.state s) (step_marks s.mark b)
run_keeps q m e again default (Do a ∷ is) zero s b =
    act_keeps e (effect_of a q s.state m) (run q m e is 0) again default (λ t c. run_keeps q m e again default is 0 t c)
    s (marked a s) b (action_marks a s.mark b)
run_keeps q m e again default (Skip k ∷ is) zero s b = run_keeps q m e again default is k s b

default_keeps : (program : List Instruction) (q : Request) (m left : ℕ) → Keeps (exits_in program q m left).default
default_keeps program q m zero s b = b
default_keeps program q m (suc left) s b = b

again_keeps : (program : List Instruction) (q : Request) (m left : ℕ) → Keeps (exits_in program q m left).again
again_keeps program q m zero s b = b
again_keeps program q m (suc left) s b =
    run_keeps q m (exits_in program q m left) (again_keeps program q m left) (default_keeps program q m left) program 0 (without_context s) b

place_keeps : (program : List Instruction) (q : Request) (m left : ℕ) (place : Place) → Keeps (way_at program q m left place)
place_keeps program q m left (InText at) =
    run_keeps q m (exits_in program q m left) (again_keeps program q m left) (default_keeps program q m left) (drop at program) 0
place_keeps program q m left AtDefault = λ s b. b

worker_needed : (i : ℕ) (plan : Plan) → is_for_worker (first_stand plan).mark ≡ true → first_need (Loop i) plan ≡ next.NeedWorker
worker_needed i (Over s) b = rw b refl
worker_needed i (AwaitVerdict limit s go) b = rw b refl
worker_needed i (AwaitContent s go) b = rw b refl
worker_needed i (AwaitPage location listing s go) b = refl

handing_at : (program : List Instruction) (q : Request) (m left : ℕ) (place : Place) (s : Stand) (role : Role) (b : Bool) → is_for_worker s.mark ≡ b →
    for_role role b next.Stop ≡ next.NeedWorker → first_need role (way_at program q m left place s) ≡ next.NeedWorker
handing_at program q m left place s Main b is e = absurd cc
handing_at program q m left place s (Worker i) b is e = absurd cc
handing_at program q m left place s (Loop i) false is e = absurd cc
handing_at program q m left place s (Loop i) true is e =
    worker_needed i (way_at program q m left place s) (place_keeps program q m left place s is)

-- a role that hands on what runs has to hand it on
pub handing : (program : List Instruction) (e : ExchangeData) (role : Role) → e.phase ≡ phase.Running →
    for_role role (is_for_worker e.stand.mark) next.Stop ≡ next.NeedWorker → first_need role (plan_in program e) ≡ next.NeedWorker
handing program e role is hands =
    ap (λ p. first_need role (plan_at p e.place e.stand (way_at program e.request e.moment e.restarts_left e.place))) is
    ∙ handing_at program e.request e.moment e.restarts_left e.place e.stand role (is_for_worker e.stand.mark) refl hands

pub not_stopped : (p : Phase) (role : Role) (plan : Plan) → (p ≡ phase.Stopped → ⊥) → need_at p role plan ≡ first_need role plan
not_stopped phase.Running role plan live = refl
not_stopped (phase.AwaitsVerdict limit) role plan live = refl
not_stopped phase.AwaitsContent role plan live = refl
not_stopped (phase.AwaitsPage location listing) role plan live = refl
not_stopped phase.Stopped role plan live = absurd (live refl)

-- what a loop goes on with has passed no `blocking`, and a step of it keeps it from work that is a worker's
pub stays_by_step : (role : Role) (start : Mark) (old e new : ExchangeData) → start ≡ old.stand.mark →
    (for_role role (is_for_worker e.stand.mark) next.Stop ≡ next.NeedWorker → ⊥) →
    (e.stand.mark ≡ Free → new.stand.mark ≡ Worked → ⊥) → StaysForWorker role start old e → StaysForWorker role start old new
stays_by_step Main start old e new at goes step stays = tt
stays_by_step (Worker i) start old e new at goes step stays = tt
stays_by_step (Loop i) Free old e new at goes step stays = by e.stand.mark refl
  where
    by : (mark : Mark) → e.stand.mark ≡ mark → new.stand.mark ≡ Worked → ⊥
    by Free is = step is
    by Passed is = absurd (goes (rw is refl))
    by Worked is = absurd (stays is)
stays_by_step (Loop i) Passed old e new at goes step stays =
    let is : e.stand.mark ≡ Passed = ap (λ (x : ExchangeData). x.stand.mark) stays ∙ sym at in absurd (goes (rw is refl))
stays_by_step (Loop i) Worked old e new at goes step stays =
    let is : e.stand.mark ≡ Worked = ap (λ (x : ExchangeData). x.stand.mark) stays ∙ sym at in absurd (goes (rw is refl))

-- an exchange that was not touched stays so
pub stays_there : (role : Role) (start : Mark) (e : ExchangeData) → start ≡ e.stand.mark → StaysForWorker role start e e
stays_there Main start e at = tt
stays_there (Worker i) start e at = tt
stays_there (Loop i) Free e at = λ worked. absurd cc
stays_there (Loop i) Passed e at = refl
stays_there (Loop i) Worked e at = refl
