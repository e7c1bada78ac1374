-- A request asks each limit of its text once at most in each pass, and leaves it as often.
use Rattle.std.proofs.Common.{◌≡◌, ℕ, zero, suc, pred, ◌+◌, ◌*◌, ◌<◌, ◌≤◌, Bool, cond, List, [], ◌∷◌, ◌++◌, map, length, reverse, Option, Some, None, if◌then◌else◌, refl, sym, ap, ◌∙◌, subst, length-append, arith}
use Rattle.std.specs.List.{cons_option}
use Rattle.std.proofs.lemmas.List.{reverse-append}
use Rattle.std.proofs.lemmas.List.Sums.{sum_by-append}
use Rattle.tow_model.specs.declared.request.Request.{Request}
use Rattle.tow_model.specs.declared.record.Listener.{Listener}
use Rattle.tow_model.specs.declared.record.Listener.TheVariants.{Leave, Log}
use Rattle.tow_model.specs.declared.account.Bound.{Bound}
use Rattle.tow_model.specs.declared.account.Call.{Call}
use Rattle.tow_model.specs.declared.account.Verdict.{Verdict}
use Rattle.tow_model.specs.declared.account.Verdict.TheVariants.{Admitted, Refused}
use Rattle.tow_model.specs.declared.action.Action.{Action}
use Rattle.tow_model.specs.declared.action.Action.TheVariants.{Set, Clear, Rewrite, Redirect, ResponseCode, Header, AllowedMethods, RequestLimit, Resource, Blocking, AccessLog, Echo, Restart, Done}
use Rattle.tow_model.specs.declared.content.Content.{Content}
use Rattle.tow_model.specs.declared.content.Content.TheVariants as content
use Rattle.tow_model.specs.declared.limits.TheConstants.{MAX_RESTARTS}
use Rattle.tow_model.specs.declared.statement.Statement.{Statement}
use Rattle.tow_semantics.specs.Effects.{Effect, Takes, Asks, ReadsContent, LooksUp, BeginsAgain, GoesToDefault, effect_of}
use Rattle.tow_semantics.specs.Pages.{Found, Serve, Redirect as redirects, Listing, Forbidden, NotModified, NotFound, BadMethod, on_found}
use Rattle.tow_semantics.specs.Plans.{Exits, Plan, Over, AwaitVerdict, AwaitContent, AwaitPage, Stand, Way, act, default_way, marked, moved, take_step, tested, without_context}
use Rattle.tow_semantics.specs.Predicates.{held, test_of}
use Rattle.tow_semantics.specs.Steps.{Go, Step, Stop, on_content, on_verdict}
use Rattle.tow_exchange.specs.Exchanges.{ExchangeData, content_given, opened, page_given, verdict_given}
use Rattle.tow_exchange.specs.declared.phase.Phase.TheVariants.{AwaitsVerdict, AwaitsContent, AwaitsPage}
use Rattle.tow_program.specs.Actions.{bound_in, bounds_in}
use Rattle.tow_program.specs.declared.instruction.Instruction.{Instruction}
use Rattle.tow_program.specs.declared.instruction.Instruction.TheVariants.{Ask, Do, Skip}
use Rattle.tow_program.specs.Programs.{program_of}
use Rattle.tow_program.specs.Runs.{run, exits_in}
use Rattle.tow_program.proofs.Acting.{bounds_are_tree}
use Rattle.tow_advance.specs.Moves.{AddsLogs}
use Rattle.tow_advance.specs.Under.{plan_in}
use Rattle.tow_advance.proofs.Plans.{verdict_plan, content_plan, page_plan}
use Rattle.tow_progress.specs.Accounts.{Tally, called}
use Rattle.tow_course.specs.Course.{Advances}
use Rattle.tow_states.specs.Calling.{AsksAtMost, CallsHavePlaces, HasPlaces, HasPlacesFor, is_leaving, leavings, most_asks}

-- ---- plans

more_asks : (plan : Plan) (n m : ℕ) → n ≤ m → AsksAtMost plan n → AsksAtMost plan m
more_asks (Over s) n m le few = tt
more_asks (AwaitVerdict limit s go) n m le (less, is, few) =
    let enough : less ≤ pred m = omega (arith, le, is) in
    let same : m ≡ suc (pred m) = omega (arith, le, is) in
    (pred m, same, λ v. more_asks (go v) less (pred m) enough (few v))
more_asks (AwaitContent s go) n m le few = λ c. more_asks (go c) n m le (few c)
more_asks (AwaitPage location listing s go) n m le few = λ p. more_asks (go p) n m le (few p)

abbrev Few : Way → ℕ → Type 0
Few way n = (s : Stand) → AsksAtMost (way s) n

step_few : (step : Step) (next : Way) (s : Stand) (n : ℕ) → Few next n → AsksAtMost (take_step step next s) n
step_few (Go x) next s n few = few (moved x s)
step_few (Stop x) next s n few = tt

-- ---- a pass

-- the limits that these instructions enter
abbrev limits : List Instruction → ℕ
limits is = length (bounds_in is)

module _ (q : Request) (m : ℕ) (exits : Exits) (b : ℕ) (again : Few exits.again b) (default : Few exits.default b) where
  -- what follows asks n times and b more at most
  act_few : (effect : Effect) (next : Way) (s t : Stand) (n : ℕ) → Few next (n + b) → (limit : ℕ) → effect ≡ Asks limit
      → AsksAtMost (act exits effect next s t) (suc n + b)
  act_few effect next s t n few limit is =
      let one : suc n + b ≡ suc (n + b) = omega arith in
      subst (λ (x : Effect). AsksAtMost (act exits x next s t) (suc n + b)) (sym is)
      (n + b, one, λ v. step_few (on_verdict limit v s.state) next t (n + b) few)

  -- an effect that asks no limit
  abbrev AsksNone : Effect → Type 0
  AsksNone (Asks limit) = ⊥
  AsksNone other = Unit {0}

  exit_few : (way : Way) (t : Stand) (n : ℕ) → Few way b → AsksAtMost (way t) (n + b)
  exit_few way t n few = let le : b ≤ n + b = omega arith in more_asks (way t) b (n + b) le (few t)

  other_few : (effect : Effect) (next : Way) (s t : Stand) (n : ℕ) → AsksNone effect → Few next (n + b)
      → AsksAtMost (act exits effect next s t) (n + b)
  other_few (Takes step) next s t n none few = step_few step next t (n + b) few
  other_few (Asks limit) next s t n none few = absurd none
  other_few ReadsContent next s t n none few = λ c. step_few (on_content c s.state) next t (n + b) few
  other_few (LooksUp location listing) next s t n none few = λ p. step_few (on_found p s.state) next t (n + b) few
  other_few BeginsAgain next s t n none few = exit_few exits.again t n again
  other_few GoesToDefault next s t n none few = exit_few exits.default t n default

  do_few : (a : Action) (is : List Instruction) (next : Way) (s t : Stand) → Few next (limits is + b)
      → AsksAtMost (act exits (effect_of a q s.state m) next s t) (limits (Do a ∷ is) + b)
  do_few (Set target value) is next s t few = other_few (effect_of (Set target value) q s.state m) next s t (limits is) tt few
  do_few (Clear target) is next s t few = other_few (effect_of (Clear target) q s.state m) next s t (limits is) tt few
  do_few (Rewrite value) is next s t few = other_few (effect_of (Rewrite value) q s.state m) next s t (limits is) tt few
  do_few (Redirect value) is next s t few = other_few (effect_of (Redirect value) q s.state m) next s t (limits is) tt few
  do_few (ResponseCode status) is next s t few = other_few (effect_of (ResponseCode status) q s.state m) next s t (limits is) tt few
  do_few (Header name value replace) is next s t few = other_few (effect_of (Header name value replace) q s.state m) next s t (limits is) tt few
  do_few (AllowedMethods methods) is next s t few = other_few (effect_of (AllowedMethods methods) q s.state m) next s t (limits is) tt few
  do_few (RequestLimit number most) is next s t few =
      act_few (effect_of (RequestLimit number most) q s.state m) next s t (limits is) few number refl
  do_few (Resource location listing) is next s t few = other_few (effect_of (Resource location listing) q s.state m) next s t (limits is) tt few
  do_few Blocking is next s t few = other_few (effect_of Blocking q s.state m) next s t (limits is) tt few
  do_few (AccessLog number format) is next s t few = other_few (effect_of (AccessLog number format) q s.state m) next s t (limits is) tt few
  do_few Echo is next s t few = other_few (effect_of Echo q s.state m) next s t (limits is) tt few
  do_few Restart is next s t few = other_few (effect_of Restart q s.state m) next s t (limits is) tt few
  do_few Done is next s t few = other_few (effect_of Done q s.state m) next s t (limits is) tt few

  -- an instruction more has as many limits, or one more
  one_more : (i : Instruction) (is : List Instruction) → limits is ≤ limits (i ∷ is)
  one_more i is = length_of (bound_in i)
    where
      length_of : (o : Option Bound) → limits is ≤ length (cons_option o (bounds_in is))
      length_of None = omega arith
      length_of (Some bound) = omega arith

  run_few : (is : List Instruction) (k : ℕ) → Few (run q m exits is k) (limits is + b)
  run_few [] k s =
      let none : limits [] ≡ 0 = refl in
      let same : b ≡ limits [] + b = omega (arith, none) in
      subst (AsksAtMost (exits.default s)) same (default s)
  run_few (i ∷ is) (suc k) s =
      let le : limits is ≤ limits (i ∷ is) = one_more i is in
      let more : limits is + b ≤ limits (i ∷ is) + b = omega (arith, le) in
      more_asks (run q m exits is k s) (limits is + b) (limits (i ∷ is) + b) more (run_few is k s)
  run_few (Ask test holds fails ∷ is) zero s =
      let h = held (test_of test q s.state m) s.state in
      run_few is (if h.holds then holds else fails) (tested h.state s)
  run_few (Do a ∷ is) zero s = do_few a is (run q m exits is 0) s (marked a s) (run_few is 0)
  run_few (Skip n ∷ is) zero s = run_few is n s

-- ---- all passes

default_few : (n : ℕ) → Few default_way n
default_few n s = λ p. step_few (on_found p s.state) _ s n (λ t. tt)

module _ (program : List Instruction) (q : Request) (m : ℕ) where
  again_few : (left : ℕ) → Few (exits_in program q m left).again (left * limits program)
  again_few zero s = tt
  again_few (suc left) s =
      let rest = left * limits program in
      let sum : suc left * limits program ≡ limits program + rest = grind arith in
      subst (AsksAtMost (run q m (exits_in program q m left) program 0 (without_context s))) (sym sum)
      (run_few q m (exits_in program q m left) rest (again_few left) (default_in left rest) program 0 (without_context s))
    where
      default_in : (n rest : ℕ) → Few (exits_in program q m n).default rest
      default_in zero rest = default_few rest
      default_in (suc n) rest = default_few rest

  all_few : (left : ℕ) → Few (run q m (exits_in program q m left) program 0) (suc left * limits program)
  all_few left s =
      let rest = left * limits program in
      let sum : suc left * limits program ≡ limits program + rest = grind arith in
      subst (AsksAtMost (run q m (exits_in program q m left) program 0 s)) (sym sum)
      (run_few q m (exits_in program q m left) rest (again_few left) (default_in left rest) program 0 s)
    where
      default_in : (n rest : ℕ) → Few (exits_in program q m n).default rest
      default_in zero rest = default_few rest
      default_in (suc n) rest = default_few rest

opened_few : (tree : List Statement) (k j : ℕ) (q : Request) (m : ℕ)
    → AsksAtMost (plan_in (program_of tree) (opened k j q m)) (most_asks tree)
opened_few tree k j q m =
    subst (λ (bounds : List Bound). AsksAtMost (plan_in (program_of tree) (opened k j q m)) (suc MAX_RESTARTS * length bounds))
    (bounds_are_tree tree) (all_few (program_of tree) q m MAX_RESTARTS _)

-- ---- leavings

leavings-append : (xs ys : List Listener) → leavings (xs ++ ys) ≡ leavings xs + leavings ys
leavings-append xs ys = sum_by-append (λ (x : Listener). cond (is_leaving x) 1 0) xs ys

logs_leave : (logs : List ℕ) → leavings (map Log logs) ≡ 0
logs_leave [] = refl
logs_leave (n ∷ logs) = logs_leave logs

adds_leave : (old new : List Listener) → AddsLogs old new → leavings new ≡ leavings old
adds_leave old new adds =
    let all : leavings new ≡ leavings old + leavings (map Log adds.0) = ap leavings adds.1 ∙ leavings-append old (map Log adds.0) in
    let none = logs_leave adds.0 in omega (arith, all, none)

turned_leave : (listeners : List Listener) → leavings (reverse listeners) ≡ leavings listeners
turned_leave [] = refl
turned_leave (x ∷ xs) =
    let turned : leavings (reverse (x ∷ xs)) ≡ leavings (reverse xs) + leavings (x ∷ []) =
    ap leavings (reverse-append (x ∷ []) xs) ∙ leavings-append (reverse xs) (x ∷ []) in
    let whole : leavings (x ∷ xs) ≡ leavings (x ∷ []) + leavings xs = leavings-append (x ∷ []) xs in
    let rest = turned_leave xs in omega (arith, turned, whole, rest)

-- ---- the places

module _ (tree : List Statement) (room : ℕ) (t : Tally) where
  advance_step : (old new : ExchangeData) (asks : ℕ) → Advances tree old new → HasPlaces tree room t old asks → HasPlaces tree room t new asks
  advance_step old new asks a has = record {
    asks_few = subst (λ (p : Plan). AsksAtMost p asks) (sym a.plan) has.asks_few;
    places = subst (λ (n : ℕ). length t.calls + (2 * asks + n) ≤ room)
        (sym (adds_leave old.stand.state.listeners new.stand.state.listeners a.adds)) has.places;
  }

  -- one that waits for a verdict asks once at least
  asks_once : (e : ExchangeData) (limit asks : ℕ) → e.phase ≡ AwaitsVerdict limit → HasPlaces tree room t e asks
      → (less : ℕ) × (asks ≡ suc less) × ((v : Verdict) → AsksAtMost (plan_in (program_of tree) (verdict_given limit v e)) less)
  asks_once e limit asks waits has =
      subst (λ (p : Plan). AsksAtMost p asks) (verdict_plan (program_of tree) e limit waits) has.asks_few

  place_step : (e : ExchangeData) (limit asks : ℕ) → e.phase ≡ AwaitsVerdict limit → HasPlaces tree room t e asks → length t.calls < room
  place_step e limit asks waits has =
      let once = asks_once e limit asks waits has in
      let some : asks ≡ suc once.0 = once.1 in
      let places = has.places in omega (arith, some, places)

  one_call : (call : Call) → length (t.calls ++ call ∷ []) ≡ length t.calls + 1
  one_call call = length-append t.calls (call ∷ [])

  hear_step : (e : ExchangeData) (limit asks : ℕ) (verdict : Verdict) (call : Call) → e.phase ≡ AwaitsVerdict limit
      → HasPlaces tree room t e asks → HasPlaces tree room (called call t) (verdict_given limit verdict e) (pred asks)
  hear_step e limit asks verdict call waits has =
      let once = asks_once e limit asks waits has in
      let some : asks ≡ suc once.0 = once.1 in
      let same : once.0 ≡ pred asks = omega (arith, some) in
      record {
        asks_few = subst (AsksAtMost (plan_in (program_of tree) (verdict_given limit verdict e))) same (once.2 verdict);
        places = by verdict;
      }
    where
      by : (v : Verdict) → length (t.calls ++ call ∷ []) + (2 * pred asks + leavings (verdict_given limit v e).stand.state.listeners) ≤ room
      by Admitted =
          let some : asks ≡ suc (asks_once e limit asks waits has).0 = (asks_once e limit asks waits has).1 in
          let more : leavings (e.stand.state.listeners ++ Leave limit ∷ []) ≡ leavings e.stand.state.listeners + 1 =
          leavings-append e.stand.state.listeners (Leave limit ∷ []) in
          let one = one_call call in
          let places = has.places in omega (arith, some, more, one, places)
      by Refused =
          let some : asks ≡ suc (asks_once e limit asks waits has).0 = (asks_once e limit asks waits has).1 in
          let one = one_call call in
          let places = has.places in omega (arith, some, one, places)

  read_step : (e : ExchangeData) (x : Content) (asks : ℕ) → e.phase ≡ AwaitsContent → HasPlaces tree room t e asks
      → HasPlaces tree room t (content_given x e) asks
  read_step e x asks waits has = record {
    asks_few = subst (λ (p : Plan). AsksAtMost p asks) (content_plan (program_of tree) e waits) has.asks_few x;
    places = by x;
  }
    where
      by : (y : Content) → length t.calls + (2 * asks + leavings (content_given y e).stand.state.listeners) ≤ room
      by (content.Whole bytes) = has.places
      by content.Bad = has.places
      by content.TooLong = has.places

  look_step : (e : ExchangeData) (location : List ℕ) (listing : Bool) (found : Found) (asks : ℕ)
      → e.phase ≡ AwaitsPage location listing → HasPlaces tree room t e asks → HasPlaces tree room t (page_given found e) asks
  look_step e location listing found asks waits has = record {
    asks_few = subst (λ (p : Plan). AsksAtMost p asks) (page_plan (program_of tree) e location listing waits) has.asks_few found;
    places = by found;
  }
    where
      by : (p : Found) → length t.calls + (2 * asks + leavings (page_given p e).stand.state.listeners) ≤ room
      by (Serve path len second) = has.places
      by (redirects to) = has.places
      by (Listing bytes) = has.places
      by Forbidden = has.places
      by (NotModified second) = has.places
      by NotFound = has.places
      by BadMethod = has.places

  complete_step : (e : ExchangeData) (asks : ℕ) (listeners : List Listener) → HasPlaces tree room t e asks
      → AddsLogs e.stand.state.listeners listeners → HasPlacesFor room t (reverse listeners)
  complete_step e asks listeners has adds =
      let same = adds_leave e.stand.state.listeners listeners adds in
      let turned = turned_leave listeners in
      let places = has.places in omega (arith, same, turned, places)

  leave_first : (limit : ℕ) (left : List Listener) → leavings (Leave limit ∷ left) ≡ 1 + leavings left
  leave_first limit left = leavings-append (Leave limit ∷ []) left

  place_to_leave : (limit : ℕ) (left : List Listener) → HasPlacesFor room t (Leave limit ∷ left) → length t.calls < room
  place_to_leave limit left has = let first = leave_first limit left in omega (arith, first, has)

  leave_step : (limit : ℕ) (left : List Listener) (call : Call) → HasPlacesFor room t (Leave limit ∷ left)
      → HasPlacesFor room (called call t) left
  leave_step limit left call has =
      let first = leave_first limit left in
      let one = one_call call in omega (arith, first, one, has)

pub calls_have_places : CallsHavePlaces
calls_have_places tree room t = record {
  opens = λ k j q m enough. record {
    asks_few = opened_few tree k j q m;
    places = omega (arith, enough);
  };
  advances = advance_step tree room t;
  has_place = place_step tree room t;
  hears = hear_step tree room t;
  reads = read_step tree room t;
  looks = look_step tree room t;
  completes = complete_step tree room t;
  has_place_to_leave = place_to_leave tree room t;
  leaves = leave_step tree room t;
}
