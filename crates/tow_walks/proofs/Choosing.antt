-- No step of a text chooses a file: only a page is one.
use Rattle.std.proofs.Common.{◌≡◌, ◌≢◌, ◌⊎◌, inl, inr, ℕ, zero, suc, Bool, true, false, List, [], ◌∷◌, drop, if◌then◌else◌, refl, sym, ap, subst, ◌∙◌}
use Rattle.tow_model.specs.declared.record.Record.{Record}
use Rattle.tow_model.specs.declared.record.Choice.{Choice}
use Rattle.tow_model.specs.declared.record.Choice.TheVariants.{Undecided, Empty, Whole, File, Listing}
use Rattle.tow_model.specs.declared.request.Request.{Request}
use Rattle.tow_model.specs.declared.action.Action.{Action}
use Rattle.tow_model.specs.declared.action.Action.TheVariants.{Set, Clear, Rewrite, Redirect, ResponseCode, Header, AllowedMethods, RequestLimit, Resource, Blocking, AccessLog, Echo, Restart, Done}
use Rattle.tow_model.specs.Texts.{Text, is_among}
use Rattle.tow_semantics.specs.Predicates.{held, test_of}
use Rattle.tow_semantics.specs.Steps.{Step, Go, Stop}
use Rattle.tow_semantics.specs.Effects.{Effect, Takes, Asks, ReadsContent, LooksUp, BeginsAgain, GoesToDefault, effect_of, not_allowed}
use Rattle.tow_semantics.specs.Plans.{Stand, Plan, Way, Exits, moved, marked, tested, take_step, act, without_context}
use Rattle.tow_exchange.specs.Exchanges.{ExchangeData}
use Rattle.tow_exchange.specs.declared.phase.Phase.{Phase}
use Rattle.tow_exchange.specs.declared.phase.Phase.TheVariants.{Running, AwaitsVerdict, AwaitsContent, AwaitsPage, Stopped}
use Rattle.tow_exchange.specs.declared.place.Place.{Place}
use Rattle.tow_exchange.specs.declared.place.Place.TheVariants.{InText, AtDefault}
use Rattle.tow_program.specs.declared.instruction.Instruction.{Instruction}
use Rattle.tow_program.specs.declared.instruction.Instruction.TheVariants.{Ask, Do, Skip}
use Rattle.tow_program.specs.Runs.{run, exits_in}
use Rattle.tow_advance.specs.Needs.{first_stand}
use Rattle.tow_advance.specs.Under.{way_at, plan_at, plan_in}
use Rattle.tow_advance.proofs.Adding.{effect_adds, held_same}
use Rattle.tow_advance.proofs.Plans.{stopped_plan}

-- no file is chosen
abbrev pub IsNoFile : Choice → Type 0
IsNoFile Undecided = Unit {0}
IsNoFile Empty = Unit {0}
IsNoFile (Whole bytes) = Unit {0}
IsNoFile (File path len) = ⊥
IsNoFile (Listing bytes) = Unit {0}

-- the way comes to no file
abbrev Keeps : Way → Type 0
Keeps w = (s : Stand) → IsNoFile s.state.choice → IsNoFile (first_stand (w s)).state.choice

abbrev StepKeeps : Step → Type 0
StepKeeps (Go x) = IsNoFile x.choice
StepKeeps (Stop x) = IsNoFile x.choice

abbrev EffectKeeps : Effect → Type 0
EffectKeeps (Takes step) = StepKeeps step
EffectKeeps other = Unit {0}

same_choice : (x y : Record) → y.choice ≡ x.choice → IsNoFile x.choice → IsNoFile y.choice
same_choice x y same none = subst IsNoFile (sym same) none

allowing : (allowed : Bool) (methods : List Text) (x : Record) → IsNoFile x.choice → StepKeeps (if allowed then Go x else Stop (not_allowed methods x))
allowing true methods x none = none
allowing false methods x none = tt

effect_keeps : (a : Action) (q : Request) (x : Record) (m : ℕ) → IsNoFile x.choice → EffectKeeps (effect_of a q x m)
effect_keeps (Set target value) q x m none = subst IsNoFile (sym (effect_adds (Set target value) q x m).1) none
effect_keeps (Clear target) q x m none = subst IsNoFile (sym (effect_adds (Clear target) q x m).1) none
effect_keeps (Rewrite value) q x m none = subst IsNoFile (sym (effect_adds (Rewrite value) q x m).1) none
effect_keeps (Redirect value) q x m none = tt
effect_keeps (ResponseCode status) q x m none = tt
effect_keeps (Header name value replace) q x m none = subst IsNoFile (sym (effect_adds (Header name value replace) q x m).1) none
effect_keeps (AllowedMethods methods) q x m none = allowing (is_among q.method methods) methods x none
effect_keeps (RequestLimit number most) q x m none = tt
effect_keeps (Resource location listing) q x m none = tt
effect_keeps Blocking q x m none = none
effect_keeps (AccessLog number format) q x m none = none
effect_keeps Echo q x m none = tt
effect_keeps Restart q x m none = tt
effect_keeps Done q x m none = tt

step_keeps : (step : Step) (w : Way) → Keeps w → StepKeeps step → (s : Stand) → IsNoFile (first_stand (take_step step w s)).state.choice
step_keeps (Go x) w keeps none s = keeps (moved x s) none
step_keeps (Stop x) w keeps none s = none

act_keeps : (e : Exits) (effect : Effect) (w : Way) → Keeps e.again → Keeps e.default → Keeps w → EffectKeeps effect →
    (s t : Stand) → IsNoFile s.state.choice → IsNoFile t.state.choice → IsNoFile (first_stand (act e effect w s t)).state.choice
act_keeps e (Takes step) w again default keeps takes s t none after = step_keeps step w keeps takes t
act_keeps e (Asks limit) w again default keeps takes s t none after = none
act_keeps e ReadsContent w again default keeps takes s t none after = none
act_keeps e (LooksUp location listing) w again default keeps takes s t none after = none
act_keeps e BeginsAgain w again default keeps takes s t none after = again t after
act_keeps e GoesToDefault w again default keeps takes s t none after = default t after

run_keeps : (q : Request) (m : ℕ) (e : Exits) → Keeps e.again → Keeps e.default → (is : List Instruction) (n : ℕ) → Keeps (run q m e is n)
run_keeps q m e again default [] n s none = default s none
run_keeps q m e again default (i ∷ is) (suc n) s none = run_keeps q m e again default is n s none
run_keeps q m e again default (Ask t holds fails ∷ is) zero s none =
    let h = held (test_of t q s.state m) s.state in
    run_keeps q m e again default is (if h.holds then holds else fails) (tested h.state s)
    (same_choice s.state h.state (held_same (test_of t q s.state m) s.state).choice none)
run_keeps q m e again default (Do a ∷ is) zero s none =
    act_keeps e (effect_of a q s.state m) (run q m e is 0) again default (λ t after. run_keeps q m e again default is 0 t after)
    (effect_keeps a q s.state m none) s (marked a s) none none
run_keeps q m e again default (Skip k ∷ is) zero s none = run_keeps q m e again default is k s none

default_keeps : (program : List Instruction) (q : Request) (m left : ℕ) → Keeps (exits_in program q m left).default
default_keeps program q m zero s none = none
default_keeps program q m (suc left) s none = none

again_keeps : (program : List Instruction) (q : Request) (m left : ℕ) → Keeps (exits_in program q m left).again
again_keeps program q m zero s none = tt
again_keeps program q m (suc left) s none =
    run_keeps q m (exits_in program q m left) (again_keeps program q m left) (default_keeps program q m left) program 0 (without_context s) none

place_keeps : (program : List Instruction) (q : Request) (m left : ℕ) (place : Place) → Keeps (way_at program q m left place)
place_keeps program q m left (InText at) =
    run_keeps q m (exits_in program q m left) (again_keeps program q m left) (default_keeps program q m left) (drop at program) 0
place_keeps program q m left AtDefault = λ s none. tt

plan_keeps : (p : Phase) (place : Place) (s : Stand) (next : Way) → Keeps next → IsNoFile s.state.choice →
    IsNoFile (first_stand (plan_at p place s next)).state.choice
plan_keeps Running place s next keeps none = keeps s none
plan_keeps (AwaitsVerdict limit) place s next keeps none = none
plan_keeps AwaitsContent place s next keeps none = none
plan_keeps (AwaitsPage location listing) place s next keeps none = none
plan_keeps Stopped place s next keeps none = none

-- What stands first in the plan of an exchange without a file is one without a file.
no_file : (program : List Instruction) (e : ExchangeData) → IsNoFile e.stand.state.choice →
    IsNoFile (first_stand (plan_in program e)).state.choice
no_file program e none =
    plan_keeps e.phase e.place e.stand (way_at program e.request e.moment e.restarts_left e.place)
    (place_keeps program e.request e.moment e.restarts_left e.place) none

stopped_stand : (program : List Instruction) (e : ExchangeData) → e.phase ≡ Stopped → first_stand (plan_in program e) ≡ e.stand
stopped_stand program e is = ap first_stand (stopped_plan program e is)

pub has_stopped : (p : Phase) → (p ≡ Stopped) ⊎ (p ≢ Stopped)
has_stopped Running = inr (λ is. cc)
has_stopped (AwaitsVerdict limit) = inr (λ is. cc)
has_stopped AwaitsContent = inr (λ is. cc)
has_stopped (AwaitsPage location listing) = inr (λ is. cc)
has_stopped Stopped = inl refl

module _ (program : List Instruction) (old new : ExchangeData) (plan : plan_in program new ≡ plan_in program old) (is : new.phase ≡ Stopped) where
  -- what stops has stopped with no file
  pub stops_without : IsNoFile old.stand.state.choice → IsNoFile new.stand.state.choice
  stops_without none =
      subst (λ (s : Stand). IsNoFile s.state.choice) (stopped_stand program new is)
      (subst (λ (p : Plan). IsNoFile (first_stand p).state.choice) (sym plan) (no_file program old none))

  -- what had stopped has the same record
  pub stopped_already : old.phase ≡ Stopped → new.stand ≡ old.stand
  stopped_already was = sym (stopped_stand program new is) ∙ ap first_stand plan ∙ stopped_stand program old was
