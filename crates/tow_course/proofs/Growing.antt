-- Whatever an exchange is given, its listeners are only ever added.
use Rattle.std.proofs.Common.{◌≡◌, ℕ, zero, suc, Bool, true, false, List, [], ◌∷◌, ◌++◌, map, drop, if◌then◌else◌, Option, Some, None, refl, sym, ap, subst, ◌∙◌, append-nil, append_assoc}
use Rattle.tow_model.specs.declared.request.Request.{Request}
use Rattle.tow_model.specs.declared.record.Record.{Record}
use Rattle.tow_model.specs.declared.record.Listener.{Listener}
use Rattle.tow_model.specs.declared.record.Listener.TheVariants.{Log}
use Rattle.tow_model.specs.declared.account.Verdict.{Verdict}
use Rattle.tow_model.specs.declared.account.Verdict.TheVariants.{Admitted, Refused}
use Rattle.tow_model.specs.declared.content.Content.{Content}
use Rattle.tow_model.specs.declared.content.Content.TheVariants.{Whole, Bad, TooLong}
use Rattle.tow_model.specs.declared.action.Action.{Action}
use Rattle.tow_model.specs.Lists.{IsPrefix}
use Rattle.tow_semantics.specs.Predicates.{held, test_of}
use Rattle.tow_semantics.specs.Steps.{Step, Go, Stop, answered, on_verdict, on_content}
use Rattle.tow_semantics.specs.Effects.{Effect, Takes, Asks, ReadsContent, LooksUp, BeginsAgain, GoesToDefault, effect_of}
use Rattle.tow_semantics.specs.Pages.{Found, Serve, Redirect, Listing, Forbidden, NotModified, NotFound, BadMethod, found_page, on_found}
use Rattle.tow_semantics.specs.Plans.{Stand, Plan, Over, AwaitVerdict, AwaitContent, AwaitPage, Way, Exits, moved, marked, tested, take_step, act, default_way, over, without_context}
use Rattle.tow_semantics.specs.Walk.{Given, Notes, entered}
use Rattle.tow_semantics.specs.Runs.{Entry, Walked}
use Rattle.tow_semantics.specs.Outcome.{played}
use Rattle.tow_exchange.specs.Exchanges.{ExchangeData}
use Rattle.tow_exchange.specs.declared.phase.Phase.{Phase}
use Rattle.tow_exchange.specs.declared.phase.Phase.TheVariants as phase
use Rattle.tow_exchange.specs.declared.place.Place.{Place}
use Rattle.tow_exchange.specs.declared.place.Place.TheVariants.{InText, AtDefault}
use Rattle.tow_program.specs.declared.instruction.Instruction.{Instruction}
use Rattle.tow_program.specs.declared.instruction.Instruction.TheVariants.{Ask, Do, Skip}
use Rattle.tow_program.specs.Runs.{run, exits_in, way_in}
use Rattle.tow_program.specs.Programs.{program_of}
use Rattle.tow_advance.specs.Moves.{AddsLogs}
use Rattle.tow_advance.specs.Needs.{first_stand}
use Rattle.tow_advance.specs.Under.{way_at, given_at, plan_at, plan_in}
use Rattle.tow_advance.proofs.Adding.{EffectAdds, StepAdds, effect_adds, held_same}
use Rattle.tow_course.specs.Growing.{KeepsListeners, LooksOn, ListenersGrow}
use Rattle.tow_course.proofs.Widening.{whole_front, front_of_front}

-- LISTENERS

keeps_from : (xs ys : List Listener) (plan : Plan) → IsPrefix xs ys → KeepsListeners ys plan → KeepsListeners xs plan
keeps_from xs ys (Over s) front keeps = front_of_front xs ys s.state.listeners front keeps
keeps_from xs ys (AwaitVerdict limit s go) front keeps = (front_of_front xs ys s.state.listeners front keeps.0, keeps.1)
keeps_from xs ys (AwaitContent s go) front keeps = (front_of_front xs ys s.state.listeners front keeps.0, keeps.1)
keeps_from xs ys (AwaitPage location listing s go) front keeps = (front_of_front xs ys s.state.listeners front keeps.0, keeps.1)

-- the plan keeps the listeners of the record
abbrev Widens : Record → Plan → Type 0
Widens x plan = KeepsListeners x.listeners plan

abbrev Wide : Way → Type 0
Wide way = (s : Stand) → Widens s.state (way s)

-- a record with as many listeners, or fewer
widens_from : (x y : Record) (plan : Plan) → IsPrefix x.listeners y.listeners → Widens y plan → Widens x plan
widens_from x y plan front wide = keeps_from x.listeners y.listeners plan front wide

same_front : (x y : Record) → y.listeners ≡ x.listeners → IsPrefix x.listeners y.listeners
same_front x y same = ([], same ∙ sym (append-nil x.listeners))

-- the record that a step leaves has the listeners of x, or more
abbrev StepFronts : Record → Step → Type 0
StepFronts x (Go y) = IsPrefix x.listeners y.listeners
StepFronts x (Stop y) = IsPrefix x.listeners y.listeners

step_widens : (x : Record) (step : Step) (next : Way) (t : Stand) → Wide next → StepFronts x step → Widens x (take_step step next t)
step_widens x (Go y) next t wide front = widens_from x y (next (moved y t)) front (wide (moved y t))
step_widens x (Stop y) next t wide front = front

verdict_fronts : (limit : ℕ) (verdict : Verdict) (x : Record) → StepFronts x (on_verdict limit verdict x)
verdict_fronts limit Admitted x = (_, refl)
verdict_fronts limit Refused x = whole_front x.listeners

content_fronts : (content : Content) (x : Record) → StepFronts x (on_content content x)
content_fronts (Whole bytes) x = whole_front x.listeners
content_fronts Bad x = whole_front x.listeners
content_fronts TooLong x = whole_front x.listeners

page_fronts : (found : Found) (x : Record) → StepFronts x (on_found found x)
page_fronts (Serve path len second) x = whole_front x.listeners
page_fronts (Redirect location) x = whole_front x.listeners
page_fronts (Listing bytes) x = whole_front x.listeners
page_fronts Forbidden x = whole_front x.listeners
page_fronts (NotModified second) x = whole_front x.listeners
page_fronts NotFound x = whole_front x.listeners
page_fronts BadMethod x = whole_front x.listeners

logs_front : (x y : Record) → AddsLogs x.listeners y.listeners → IsPrefix x.listeners y.listeners
logs_front x y adds = (map Log adds.0, adds.1)

taken_fronts : (x : Record) (step : Step) → StepAdds x step → StepFronts x step
taken_fronts x (Go y) adds = logs_front x y adds.0
taken_fronts x (Stop y) adds = logs_front x y adds.0

-- what is waited for
verdict_widens : (limit : ℕ) (s t : Stand) (next : Way) → Wide next →
    Widens s.state (AwaitVerdict limit s (λ v. take_step (on_verdict limit v s.state) next t))
verdict_widens limit s t next wide = (
  whole_front s.state.listeners,
  λ v. step_widens s.state (on_verdict limit v s.state) next t wide (verdict_fronts limit v s.state),
)

content_widens : (s t : Stand) (next : Way) → Wide next →
    Widens s.state (AwaitContent s (λ c. take_step (on_content c s.state) next t))
content_widens s t next wide = (
  whole_front s.state.listeners,
  λ c. step_widens s.state (on_content c s.state) next t wide (content_fronts c s.state),
)

page_widens : (location : List ℕ) (listing : Bool) (s t : Stand) (next : Way) → Wide next →
    Widens s.state (AwaitPage location listing s (λ p. take_step (on_found p s.state) next t))
page_widens location listing s t next wide = (
  whole_front s.state.listeners,
  λ p. step_widens s.state (on_found p s.state) next t wide (page_fronts p s.state),
)

act_widens : (exits : Exits) (effect : Effect) (next : Way) (s t : Stand) → t.state ≡ s.state → EffectAdds s.state effect →
    Wide exits.again → Wide exits.default → Wide next → Widens s.state (act exits effect next s t)
act_widens exits (Takes step) next s t same adds again default wide =
    step_widens s.state step next t wide (taken_fronts s.state step adds)
act_widens exits (Asks limit) next s t same adds again default wide = verdict_widens limit s t next wide
act_widens exits ReadsContent next s t same adds again default wide = content_widens s t next wide
act_widens exits (LooksUp location listing) next s t same adds again default wide = page_widens location listing s t next wide
act_widens exits BeginsAgain next s t same adds again default wide =
    widens_from s.state t.state (exits.again t) (same_front s.state t.state (ap (λ (x : Record). x.listeners) same)) (again t)
act_widens exits GoesToDefault next s t same adds again default wide =
    widens_from s.state t.state (exits.default t) (same_front s.state t.state (ap (λ (x : Record). x.listeners) same)) (default t)

module _ (q : Request) (m : ℕ) (exits : Exits) (again : Wide exits.again) (default : Wide exits.default) where
  run_widens : (is : List Instruction) (k : ℕ) → Wide (run q m exits is k)
  run_widens [] k s = default s
  run_widens (i ∷ is) (suc k) s = run_widens is k s
  run_widens (Ask test holds fails ∷ is) zero s =
      let h = held (test_of test q s.state m) s.state in
      widens_from s.state h.state (run q m exits is (if h.holds then holds else fails) (tested h.state s))
      (same_front s.state h.state (held_same (test_of test q s.state m) s.state).listeners)
      (run_widens is (if h.holds then holds else fails) (tested h.state s))
  run_widens (Do a ∷ is) zero s =
      act_widens exits (effect_of a q s.state m) (run q m exits is 0) s (marked a s) refl (effect_adds a q s.state m)
      again default (run_widens is 0)
  run_widens (Skip n ∷ is) zero s = run_widens is n s

over_widens : (status : ℕ) → Wide (λ s. over (answered status s.state) s)
over_widens status s = whole_front s.state.listeners

default_widens : Wide default_way
default_widens s = page_widens [] false s s (λ t. over (answered 404 t.state) t) (over_widens 404)

way_widens : (program : List Instruction) (q : Request) (m left at : ℕ) → Wide (way_in program q m left at)
way_widens program q m zero at =
    run_widens q m (exits_in program q m zero) (over_widens 500) default_widens (drop at program) 0
way_widens program q m (suc left) at =
    run_widens q m (exits_in program q m (suc left))
    (λ s. way_widens program q m left 0 (without_context s)) default_widens (drop at program) 0

place_widens : (program : List Instruction) (q : Request) (m left : ℕ) (place : Place) → Wide (way_at program q m left place)
place_widens program q m left (InText at) = way_widens program q m left at
place_widens program q m left AtDefault = over_widens 404

phase_widens : (phase : Phase) (place : Place) (s : Stand) (next : Way) → Wide next → Widens s.state (plan_at phase place s next)
phase_widens phase.Running place s next wide = wide s
phase_widens (phase.AwaitsVerdict limit) place s next wide = verdict_widens limit s (given_at place s) next wide
phase_widens phase.AwaitsContent place s next wide = content_widens s (given_at place s) next wide
phase_widens (phase.AwaitsPage location listing) place s next wide = page_widens location listing s (given_at place s) next wide
phase_widens phase.Stopped place s next wide = whole_front s.state.listeners

-- what an exchange has left to play keeps its listeners
exchange_keeps : (program : List Instruction) (e : ExchangeData) → KeepsListeners e.stand.state.listeners (plan_in program e)
exchange_keeps program e =
    phase_widens e.phase e.place e.stand (way_at program e.request e.moment e.restarts_left e.place)
    (place_widens program e.request e.moment e.restarts_left e.place)

-- AT ITS STOPS

first_keeps : (listeners : List Listener) (plan : Plan) → KeepsListeners listeners plan →
    IsPrefix listeners (first_stand plan).state.listeners
first_keeps listeners (Over s) keeps = keeps
first_keeps listeners (AwaitVerdict limit s go) keeps = keeps.0
first_keeps listeners (AwaitContent s go) keeps = keeps.0
first_keeps listeners (AwaitPage location listing s go) keeps = keeps.0

-- AT ITS END

-- the listeners are a front of those with which the play ends
abbrev Ends : List Listener → Given → Plan → Type 0
Ends listeners g plan = (n : Notes) → IsPrefix listeners (played g plan n).outcome.state.listeners

verdict_ends : (listeners : List Listener) (g : Given) (limit : ℕ) (s : Stand) (go : Verdict → Plan) →
    IsPrefix listeners s.state.listeners → ((v : Verdict) → Ends s.state.listeners g (go v)) → (n : Notes) (vs : List Verdict) →
    IsPrefix listeners (played g (AwaitVerdict limit s go) (record n { left = vs })).outcome.state.listeners
verdict_ends listeners g limit s go front ends n [] = front
verdict_ends listeners g limit s go front ends n (v ∷ vs) =
    let after = entered limit v vs n in
    front_of_front listeners s.state.listeners (played g (go v) after).outcome.state.listeners front (ends v after)

content_ends : (listeners : List Listener) (g : Given) (s : Stand) (go : Content → Plan) (content : Option Content) →
    IsPrefix listeners s.state.listeners → ((c : Content) → Ends s.state.listeners (record g { content = content }) (go c)) →
    Ends listeners (record g { content = content }) (AwaitContent s go)
content_ends listeners g s go None front ends n = front
content_ends listeners g s go (Some c) front ends n =
    let k = record g { content = Some c } in
    let after = record n { asked = true } in
    front_of_front listeners s.state.listeners (played k (go c) after).outcome.state.listeners front (ends c after)

played_keeps : (g : Given) (listeners : List Listener) (plan : Plan) → KeepsListeners listeners plan → Ends listeners g plan
played_keeps g listeners (Over s) keeps n = keeps
played_keeps g listeners (AwaitVerdict limit s go) keeps n =
    verdict_ends listeners g limit s go keeps.0 (λ v. played_keeps g s.state.listeners (go v) (keeps.1 v)) n n.left
played_keeps g listeners (AwaitContent s go) keeps n =
    content_ends listeners g s go g.content keeps.0 (λ c. played_keeps g s.state.listeners (go c) (keeps.1 c)) n
played_keeps g listeners (AwaitPage location listing s go) keeps n =
    let found = found_page g.files location listing g.request s.state in
    let after = record n { looked = true } in
    front_of_front listeners s.state.listeners (played g (go found) after).outcome.state.listeners keeps.0
    (played_keeps g s.state.listeners (go found) (keeps.1 found) after)

pub exchange_widens : (program : List Instruction) (e : ExchangeData) (g : Given) (n : Notes) →
    IsPrefix e.stand.state.listeners (played g (plan_in program e) n).outcome.state.listeners
exchange_widens program e g n = played_keeps g e.stand.state.listeners (plan_in program e) (exchange_keeps program e) n

pub listeners_grow : ListenersGrow
listeners_grow tree e =
    let program = program_of tree in
    record {
      stop = first_keeps e.stand.state.listeners (plan_in program e) (exchange_keeps program e);
      stops = exchange_keeps program e;
      ends = exchange_widens program e;
    }
