-- An answer names a file only if a page gave it.
use Rattle.std.proofs.Common.{◌≡◌, ℕ, zero, suc, Bool, true, false, nat_le, List, [], ◌∷◌, drop, length, Option, if◌then◌else◌, refl, sym, ap, ◌∙◌, subst, arith}
use Rattle.std.specs.Prelude.{option_map}
use Rattle.std.specs.Option.{unwrap_or}
use Rattle.tow_model.specs.declared.request.Request.{Request}
use Rattle.tow_model.specs.declared.record.Record.{Record}
use Rattle.tow_model.specs.declared.account.Verdict.{Verdict}
use Rattle.tow_model.specs.declared.account.Verdict.TheVariants.{Admitted, Refused}
use Rattle.tow_model.specs.declared.action.Action.{Action}
use Rattle.tow_model.specs.declared.action.Action.TheVariants.{Set, Clear, Rewrite, Redirect, ResponseCode, Header, AllowedMethods, RequestLimit, Resource, Blocking, AccessLog, Echo, Restart, Done}
use Rattle.tow_model.specs.declared.content.Content.{Content}
use Rattle.tow_model.specs.declared.content.Content.TheVariants as content
use Rattle.tow_model.specs.declared.statement.Statement.{Statement}
use Rattle.tow_model.specs.Texts.{Text}
use Rattle.tow_semantics.specs.Effects.{Effect, Takes, Asks, ReadsContent, LooksUp, BeginsAgain, GoesToDefault, effect_of, not_allowed}
use Rattle.tow_semantics.specs.Files.{File, Files}
use Rattle.tow_semantics.specs.Pages.{Found, Serve, Redirect as redirects, Listing, Forbidden, NotModified, NotFound, BadMethod, found_page}
use Rattle.tow_semantics.specs.Plans.{Exits, Plan, Over, Stand, Way, act, default_way, marked, moved, take_step, tested, without_context}
use Rattle.tow_semantics.specs.Predicates.{held, test_of}
use Rattle.tow_semantics.specs.Steps.{Go, Step, Stop}
use Rattle.tow_semantics.proofs.Servings.{serves_its_files}
use Rattle.tow_exchange.specs.Exchanges.{ExchangeData, content_given, page_given, verdict_given}
use Rattle.tow_exchange.specs.declared.phase.Phase.{Phase}
use Rattle.tow_exchange.specs.declared.phase.Phase.TheVariants.{Running, AwaitsVerdict, AwaitsContent, AwaitsPage, Stopped}
use Rattle.tow_exchange.specs.declared.place.Place.{Place}
use Rattle.tow_exchange.specs.declared.place.Place.TheVariants.{InText, AtDefault}
use Rattle.tow_program.specs.declared.instruction.Instruction.{Instruction}
use Rattle.tow_program.specs.declared.instruction.Instruction.TheVariants.{Ask, Do, Skip}
use Rattle.tow_program.specs.Programs.{program_of}
use Rattle.tow_program.specs.Runs.{run, exits_in, way_in}
use Rattle.tow_advance.specs.Under.{way_at, plan_at, plan_in}
use Rattle.tow_advance.proofs.Plans.{stopped_plan}
use Rattle.tow_course.specs.Course.{Advances}
use Rattle.tow_states.specs.Serving.{FilesAreOfPages, FoundFilesHaveBytes, IsGiven, IsServed, Serves, has_bytes}

-- ---- steps that no page is given to

module _ (fits : Text → ℕ → Bool) where
  -- what a step stops with serves no file
  abbrev StepServes : Step → Type 0
  StepServes (Go x) = Unit {0}
  StepServes (Stop x) = IsServed fits x.choice

  abbrev EffectServes : Effect → Type 0
  EffectServes (Takes step) = StepServes step
  EffectServes other = Unit {0}

  allowing : (allowed : Bool) (methods : List Text) (x : Record) → StepServes (if allowed then Go x else Stop (not_allowed methods x))
  allowing true methods x = tt
  allowing false methods x = tt

  effect_serves : (a : Action) (q : Request) (x : Record) (m : ℕ) → EffectServes (effect_of a q x m)
  effect_serves (Set target value) q x m = tt
  effect_serves (Clear target) q x m = tt
  effect_serves (Rewrite value) q x m = tt
  effect_serves (Redirect value) q x m = tt
  effect_serves (ResponseCode status) q x m = tt
  effect_serves (Header name value replace) q x m = tt
  effect_serves (AllowedMethods methods) q x m = allowing _ methods x
  effect_serves (RequestLimit number most) q x m = tt
  effect_serves (Resource location listing) q x m = tt
  effect_serves Blocking q x m = tt
  effect_serves (AccessLog number format) q x m = tt
  effect_serves Echo q x m = tt
  effect_serves Restart q x m = tt
  effect_serves Done q x m = tt

  -- where the plan is over at once, no file is served
  abbrev OverServes : Plan → Type 0
  OverServes (Over s) = IsServed fits s.state.choice
  OverServes other = Unit {0}

  abbrev Fair : Way → Type 0
  Fair way = (s : Stand) → OverServes (way s)

  step_serves : (step : Step) (next : Way) (s : Stand) → StepServes step → Fair next → OverServes (take_step step next s)
  step_serves (Go x) next s serves fair = fair (moved x s)
  step_serves (Stop x) next s serves fair = serves

  act_serves : (exits : Exits) (effect : Effect) (next : Way) (s t : Stand) → EffectServes effect → Fair exits.again → Fair exits.default
      → Fair next → OverServes (act exits effect next s t)
  act_serves exits (Takes step) next s t serves again default fair = step_serves step next t serves fair
  act_serves exits (Asks limit) next s t serves again default fair = tt
  act_serves exits ReadsContent next s t serves again default fair = tt
  act_serves exits (LooksUp location listing) next s t serves again default fair = tt
  act_serves exits BeginsAgain next s t serves again default fair = again t
  act_serves exits GoesToDefault next s t serves again default fair = default t

  module _ (q : Request) (m : ℕ) (exits : Exits) (again : Fair exits.again) (default : Fair exits.default) where
    run_serves : (is : List Instruction) (k : ℕ) → Fair (run q m exits is k)
    run_serves [] k s = default s
    run_serves (i ∷ is) (suc k) s = run_serves is k s
    run_serves (Ask test holds fails ∷ is) zero s =
        let h = held (test_of test q s.state m) s.state in
        run_serves is (if h.holds then holds else fails) (tested h.state s)
    run_serves (Do a ∷ is) zero s =
        act_serves exits (effect_of a q s.state m) (run q m exits is 0) s (marked a s) (effect_serves a q s.state m)
        again default (run_serves is 0)
    run_serves (Skip n ∷ is) zero s = run_serves is n s

  default_serves : Fair default_way
  default_serves s = tt

  way_serves : (program : List Instruction) (q : Request) (m left at : ℕ) → Fair (way_in program q m left at)
  way_serves program q m zero at =
      run_serves q m (exits_in program q m zero) (λ s. tt) default_serves (drop at program) 0
  way_serves program q m (suc left) at =
      run_serves q m (exits_in program q m (suc left))
      (λ s. way_serves program q m left 0 (without_context s)) default_serves (drop at program) 0

  place_serves : (program : List Instruction) (q : Request) (m left : ℕ) (place : Place) → Fair (way_at program q m left place)
  place_serves program q m left (InText at) = way_serves program q m left at
  place_serves program q m left AtDefault = λ s. tt

  -- ---- an exchange that a call of `advance` stopped

  module _ (program : List Instruction) (old : ExchangeData) (last : Stand) (over : plan_in program old ≡ Over last)
      (serves : Serves fits old) where
    abbrev way : Way
    way = way_at program old.request old.moment old.restarts_left old.place

    -- by what it waited for
    stops_at : (phase : Phase) → old.phase ≡ phase → IsServed fits last.state.choice
    stops_at Running is =
        let here : way old.stand ≡ Over last =
        sym (ap (λ (p : Phase). plan_at p old.place old.stand way) is) ∙ over in
        subst OverServes here (place_serves program old.request old.moment old.restarts_left old.place old.stand)
    stops_at (AwaitsVerdict limit) is =
        let wrong : plan_at (AwaitsVerdict limit) old.place old.stand way ≡ Over last =
        sym (ap (λ (p : Phase). plan_at p old.place old.stand way) is) ∙ over in absurd cc
    stops_at AwaitsContent is =
        let wrong : plan_at AwaitsContent old.place old.stand way ≡ Over last =
        sym (ap (λ (p : Phase). plan_at p old.place old.stand way) is) ∙ over in absurd cc
    stops_at (AwaitsPage location listing) is =
        let wrong : plan_at (AwaitsPage location listing) old.place old.stand way ≡ Over last =
        sym (ap (λ (p : Phase). plan_at p old.place old.stand way) is) ∙ over in absurd cc
    stops_at Stopped is =
        let here : Over old.stand ≡ Over last = sym (ap (λ (p : Phase). plan_at p old.place old.stand way) is) ∙ over in
        let same : old.stand ≡ last = cc in
        subst (λ (s : Stand). IsServed fits s.state.choice) same (serves is)

  advance_serves : (tree : List Statement) (old new : ExchangeData) → Advances tree old new → Serves fits old → Serves fits new
  advance_serves tree old new a serves stopped =
      stops_at (program_of tree) old new.stand (sym a.plan ∙ stopped_plan (program_of tree) new stopped) serves old.phase refl

  -- ---- what an exchange is given

  hear_serves : (limit : ℕ) (verdict : Verdict) (e : ExchangeData) → Serves fits (verdict_given limit verdict e)
  hear_serves limit Admitted e stopped = absurd cc
  hear_serves limit Refused e stopped = tt

  read_serves : (x : Content) (e : ExchangeData) → Serves fits (content_given x e)
  read_serves (content.Whole bytes) e stopped = tt
  read_serves content.Bad e stopped = tt
  read_serves content.TooLong e stopped = tt

  look_serves : (found : Found) (e : ExchangeData) → IsGiven fits found → Serves fits (page_given found e)
  look_serves (Serve path len second) e given stopped = given
  look_serves (redirects location) e given stopped = tt
  look_serves (Listing bytes) e given stopped = tt
  look_serves Forbidden e given stopped = tt
  look_serves (NotModified second) e given stopped = tt
  look_serves NotFound e given stopped = absurd cc
  look_serves BadMethod e given stopped = tt

pub files_are_of_pages : FilesAreOfPages
files_are_of_pages fits = record {
  opens = λ k j q m stopped. absurd cc;
  advances = advance_serves fits;
  hears = hear_serves fits;
  reads = read_serves fits;
  looks = look_serves fits;
}

-- ---- what a folder has

le_same : (n m : ℕ) → n ≡ m → nat_le n m ≡ true
le_same n m is = grind (arith, is)

module _ (files : Files) (location : Text) (listing : Bool) (q : Request) (x : Record) where
  given_by : (found : Found) → found_page files location listing q x ≡ found → IsGiven (has_bytes files) found
  given_by (Serve path len second) is =
      let from = serves_its_files files location listing q x path len second is in
      le_same len _ (from.whole
      ∙ ap (λ (o : Option File). length (unwrap_or (option_map (λ f. f.bytes) o) [])) (sym from.is))
  given_by (redirects to) is = tt
  given_by (Listing bytes) is = tt
  given_by Forbidden is = tt
  given_by (NotModified second) is = tt
  given_by NotFound is = tt
  given_by BadMethod is = tt

pub found_files_have_bytes : FoundFilesHaveBytes
found_files_have_bytes files location listing q x =
    given_by files location listing q x (found_page files location listing q x) refl
