-- No step changes the plan of an exchange, and what is given to it goes on with the plan.
use Rattle.std.proofs.Common.{◌≡◌, ℕ, zero, suc, ◌+◌, List, [], ◌∷◌, drop, slice_get, if◌then◌else◌, Option, Some, None, refl, sym, ap, ap₂, subst, ◌∙◌, zero-add, arith}
use Rattle.std.proofs.lemmas.List.{drop_min}
use mathlib.Core.Path.{fun_ext}
use Rattle.tow_model.specs.declared.limits.TheConstants.{MAX_RESTARTS}
use Rattle.tow_model.specs.declared.request.Request.{Request}
use Rattle.tow_model.specs.declared.record.Record.{Record}
use Rattle.tow_model.specs.declared.action.Action.{Action}
use Rattle.tow_model.specs.declared.action.Action.TheVariants.{Set, Clear, Rewrite, Redirect, ResponseCode, Header, AllowedMethods, RequestLimit, Resource, Blocking, AccessLog, Echo, Restart, Done}
use Rattle.tow_semantics.specs.Predicates.{held, test_of}
use Rattle.tow_semantics.specs.Steps.{Step, Go, Stop, on_verdict, on_content}
use Rattle.tow_semantics.specs.Pages.{on_found}
use Rattle.tow_semantics.specs.Effects.{Effect, Takes, Asks, ReadsContent, LooksUp, BeginsAgain, GoesToDefault, effect_of}
use Rattle.tow_semantics.specs.Plans.{Mark, Stand, Plan, AwaitVerdict, AwaitContent, AwaitPage, Way, Exits, moved, marked, tested, take_step, act, after_action, after_step, default_way, without_context}
use Rattle.tow_semantics.specs.Outcome.{opening, played}
use Rattle.tow_semantics.proofs.Playing.{outcome_is_played}
use Rattle.tow_exchange.specs.Exchanges.{ExchangeData, after, begun_again, opened, step_taken}
use Rattle.tow_exchange.specs.declared.phase.Phase.{Phase}
use Rattle.tow_exchange.specs.declared.phase.Phase.TheVariants.{Running}
use Rattle.tow_exchange.specs.declared.place.Place.TheVariants.{InText}
use Rattle.tow_program.specs.declared.instruction.Instruction.{Instruction}
use Rattle.tow_program.specs.declared.instruction.Instruction.TheVariants.{Ask, Do, Skip}
use Rattle.tow_program.specs.Runs.{run, exits_in, way_in}
use Rattle.tow_program.proofs.Doing.{program_is_plan}
use Rattle.tow_advance.specs.Under.{way_at, given_at, plan_at, plan_in, OpenedPlan, OpenedOutcome, StoppedPlan, VerdictPlan, ContentPlan, PagePlan}
use Rattle.tow_advance.specs.Moves.{past, acted, taken, TakenPlan, NotFoundPlan}

-- INSTRUCTIONS

module _ (q : Request) (m : ℕ) (exits : Exits) (s : Stand) where
  -- where an instruction stands there, the rest begins with it
  abbrev at_instruction : List Instruction → Option Instruction → ℕ → Plan
  at_instruction program None at = exits.default s
  at_instruction program (Some i) at = run q m exits (i ∷ drop (suc at) program) 0 s

  reads : (program : List Instruction) (at : ℕ) → run q m exits (drop at program) 0 s ≡ at_instruction program (slice_get program at) at
  reads [] zero = refl
  reads [] (suc at) = refl
  reads (i ∷ program) zero = refl
  reads (i ∷ program) (suc at) = reads program at ∙ deeper (slice_get program at)
    where
      deeper : (o : Option Instruction) → at_instruction program o at ≡ at_instruction (i ∷ program) o (suc at)
      deeper None = refl
      deeper (Some k) = refl

  passes_over : (program : List Instruction) (k : ℕ) → run q m exits program k s ≡ run q m exits (drop k program) 0 s
  passes_over [] zero = refl
  passes_over [] (suc k) = refl
  passes_over (i ∷ program) zero = refl
  passes_over (i ∷ program) (suc k) = passes_over program k

  nothing : (n : ℕ) → run q m exits (drop n []) 0 s ≡ exits.default s
  nothing zero = refl
  nothing (suc n) = refl

  further : (program : List Instruction) (at k : ℕ) → run q m exits (drop at program) k s ≡ run q m exits (drop (at + k) program) 0 s
  further program zero k = passes_over program k ∙ ap (λ n. run q m exits (drop n program) 0 s) (sym (zero-add k))
  further [] (suc at) k = passes_over [] k ∙ nothing k ∙ sym (nothing (suc at + k))
  further (i ∷ program) (suc at) k =
      let e : suc at + k ≡ suc (at + k) = omega arith in
      further program at k ∙ ap (λ n. run q m exits (drop n (i ∷ program)) 0 s) (sym e)

  -- the way behind so many of the instructions that follow
  behind : (program : List Instruction) (at k : ℕ) → run q m exits (drop (past program at k) program) 0 s ≡ run q m exits (drop (suc at) program) k s
  behind program at k =
      ap (λ is. run q m exits is 0 s) (drop_min (suc at + k) program) ∙ sym (further program (suc at) k)

restarted : (program : List Instruction) (e : ExchangeData) (left : ℕ) → e.phase ≡ Running →
    plan_in program (begun_again left e) ≡ (exits_in program e.request e.moment left).again e.stand
restarted program e zero is = refl
restarted program e (suc left) is =
    ap (λ p. plan_at p (InText 0) (without_context e.stand) (way_in program e.request e.moment left 0)) is

defaulted : (program : List Instruction) (q : Request) (m left : ℕ) (s : Stand) → (exits_in program q m left).default s ≡ default_way s
defaulted program q m zero s = refl
defaulted program q m (suc left) s = refl

-- an effect that is waited for
abbrev Waits : Effect → Type 0
Waits (Takes step) = ⊥
Waits BeginsAgain = ⊥
Waits GoesToDefault = ⊥
Waits other = Unit {0}

-- a `blocking` waits for nothing
no_blocking_waits : (a : Action) (q : Request) (x : Record) (m : ℕ) → Waits (effect_of a q x m) → (mark : Mark) → after_action a mark ≡ after_step mark
no_blocking_waits Blocking q x m waits mark = absurd waits
no_blocking_waits (Set t v) q x m waits mark = refl
no_blocking_waits (Clear t) q x m waits mark = refl
no_blocking_waits (Rewrite v) q x m waits mark = refl
no_blocking_waits (Redirect v) q x m waits mark = refl
no_blocking_waits (ResponseCode n) q x m waits mark = refl
no_blocking_waits (Header n v r) q x m waits mark = refl
no_blocking_waits (AllowedMethods ms) q x m waits mark = refl
no_blocking_waits (RequestLimit n k) q x m waits mark = refl
no_blocking_waits (Resource l k) q x m waits mark = refl
no_blocking_waits (AccessLog n f) q x m waits mark = refl
no_blocking_waits Echo q x m waits mark = refl
no_blocking_waits Restart q x m waits mark = refl
no_blocking_waits Done q x m waits mark = refl

module _ (program : List Instruction) (e : ExchangeData) (a : Action) (next : ℕ) (is : e.phase ≡ Running) where
  abbrev exits_here : Exits
  exits_here = exits_in program e.request e.moment e.restarts_left

  abbrev way_here : Way
  way_here = way_in program e.request e.moment e.restarts_left next

  -- the stand behind a step that is waited for
  waited : (effect : Effect) → effect_of a e.request e.stand.state e.moment ≡ effect → Waits effect → given_at (InText next) e.stand ≡ marked a e.stand
  waited effect at waits =
      ap (λ (mark : Mark). record e.stand { mark = mark })
      (sym (no_blocking_waits a e.request e.stand.state e.moment (subst Waits (sym at) waits) e.stand.mark))

  acted_plan : (effect : Effect) → effect_of a e.request e.stand.state e.moment ≡ effect →
      plan_in program (acted a effect next e) ≡ act exits_here effect way_here e.stand (marked a e.stand)
  acted_plan (Takes (Go x)) at = ap (λ p. plan_at p (InText next) (moved x (marked a e.stand)) way_here) is
  acted_plan (Takes (Stop x)) at = refl
  acted_plan (Asks limit) at =
      ap (λ t. AwaitVerdict limit e.stand (λ v. take_step (on_verdict limit v e.stand.state) way_here t)) (waited (Asks limit) at tt)
  acted_plan ReadsContent at =
      ap (λ t. AwaitContent e.stand (λ c. take_step (on_content c e.stand.state) way_here t)) (waited ReadsContent at tt)
  acted_plan (LooksUp location listing) at =
      ap (λ t. AwaitPage location listing e.stand (λ p. take_step (on_found p e.stand.state) way_here t)) (waited (LooksUp location listing) at tt)
  acted_plan BeginsAgain at = restarted program (after a e) e.restarts_left is
  acted_plan GoesToDefault at = sym (defaulted program e.request e.moment e.restarts_left (marked a e.stand))

module _ (program : List Instruction) (e : ExchangeData) (at : ℕ) (is : e.phase ≡ Running) where
  abbrev exits : Exits
  exits = exits_in program e.request e.moment e.restarts_left

  -- running on, at a place behind so many instructions
  runs : (k : ℕ) (s : Stand) →
      plan_at e.phase (InText (past program at k)) s (way_in program e.request e.moment e.restarts_left (past program at k))
      ≡ run e.request e.moment exits (drop (suc at) program) k s
  runs k s =
      ap (λ p. plan_at p (InText (past program at k)) s (way_in program e.request e.moment e.restarts_left (past program at k))) is
      ∙ behind e.request e.moment exits s program at k

  one : (o : Option Instruction) → plan_in program (taken program o at e) ≡ at_instruction e.request e.moment exits e.stand program o at
  one None = sym (defaulted program e.request e.moment e.restarts_left e.stand)
  one (Some (Ask test holds fails)) =
      let h = held (test_of test e.request e.stand.state e.moment) e.stand.state in
      runs (if h.holds then holds else fails) (tested h.state e.stand)
  one (Some (Do a)) = acted_plan program e a (suc at) is (effect_of a e.request e.stand.state e.moment) refl
  one (Some (Skip k)) = runs k e.stand

pub taken_plan : TakenPlan
taken_plan program e at is here =
    one program e at is (slice_get program at)
    ∙ sym (reads e.request e.moment (exits_in program e.request e.moment e.restarts_left) e.stand program at)
    ∙ sym (ap₂ (λ p w. plan_at p w e.stand (way_at program e.request e.moment e.restarts_left w)) is here)

pub not_found_plan : NotFoundPlan
not_found_plan program e is here = sym (ap₂ (λ p w. plan_at p w e.stand (way_at program e.request e.moment e.restarts_left w)) is here)

-- HOW IT BEGINS AND GOES ON

pub opened_plan : OpenedPlan
opened_plan tree k j q m = ap (λ (w : Way). w (opened k j q m).stand) (program_is_plan tree q m MAX_RESTARTS)

pub opened_outcome : OpenedOutcome
opened_outcome tree g verdicts k j =
    ap (λ p. played g p (opening verdicts)) (opened_plan tree k j g.request g.moment) ∙ sym (outcome_is_played tree g verdicts)

abbrev here : List Instruction → ExchangeData → Phase → Plan
here program e phase = plan_at phase e.place e.stand (way_at program e.request e.moment e.restarts_left e.place)

-- after a step that was waited for the plan is the step's
stepped_plan : (program : List Instruction) (e : ExchangeData) (step : Step) →
    plan_in program (step_taken step e) ≡ take_step step (way_at program e.request e.moment e.restarts_left e.place) (given_at e.place e.stand)
stepped_plan program e (Go x) = refl
stepped_plan program e (Stop x) = refl

pub stopped_plan : StoppedPlan
stopped_plan program e is = ap (here program e) is

pub verdict_plan : VerdictPlan
verdict_plan program e limit is =
    ap (here program e) is
    ∙ ap (AwaitVerdict limit e.stand) (fun_ext (λ v. sym (stepped_plan program e (on_verdict limit v e.stand.state))))

pub content_plan : ContentPlan
content_plan program e is =
    ap (here program e) is ∙ ap (AwaitContent e.stand) (fun_ext (λ c. sym (stepped_plan program e (on_content c e.stand.state))))

pub page_plan : PagePlan
page_plan program e location listing is =
    ap (here program e) is
    ∙ ap (AwaitPage location listing e.stand) (fun_ext (λ p. sym (stepped_plan program e (on_found p e.stand.state))))

-- what is given leaves the moment
pub given_moment : (step : Step) (e : ExchangeData) → (step_taken step e).moment ≡ e.moment
given_moment (Go x) e = refl
given_moment (Stop x) e = refl
