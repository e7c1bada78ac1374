-- Each step leaves less to do, and the plan, the request and the numbers of the exchange.
use Rattle.std.proofs.Common.{◌≡◌, ℕ, zero, suc, ◌+◌, ◌-◌, ◌*◌, ◌<◌, ◌≤◌, List, [], length, slice_get, if◌then◌else◌, Option, Some, None, refl, sym, ap, ap₂, subst, arith, append-nil, zero-le}
use Rattle.std.proofs.Math.Nat.{suc-mul}
use Rattle.std.proofs.lemmas.Option.{slice_get_within}
use Rattle.tow_model.specs.declared.action.Action.{Action}
use Rattle.tow_model.specs.declared.action.Action.TheVariants.{Set, Clear, Rewrite, Redirect, ResponseCode, Header, AllowedMethods, RequestLimit, Resource, Blocking, AccessLog, Echo, Restart, Done}
use Rattle.tow_semantics.specs.Plans.{Mark, Free, Passed, Worked, after_action, after_blocking, after_step}
use Rattle.tow_semantics.specs.Predicates.{held, test_of}
use Rattle.tow_semantics.specs.Steps.{Go, Stop}
use Rattle.tow_semantics.specs.Effects.{Effect, Takes, Asks, ReadsContent, LooksUp, BeginsAgain, GoesToDefault, effect_of}
use Rattle.tow_exchange.specs.Exchanges.{ExchangeData, after, begun_again, stopped_with}
use Rattle.tow_exchange.specs.declared.phase.Phase.TheVariants.{Running}
use Rattle.tow_exchange.specs.declared.place.Place.TheVariants.{InText, AtDefault}
use Rattle.tow_program.specs.declared.instruction.Instruction.{Instruction}
use Rattle.tow_program.specs.declared.instruction.Instruction.TheVariants.{Ask, Do, Skip}
use Rattle.tow_advance.specs.Moves.{past, acted, taken, left_in, left_of, places_from, walk_from, walk_left, Stepped}
use Rattle.tow_advance.proofs.Plans.{taken_plan, not_found_plan}
use Rattle.tow_advance.proofs.Adding.{empty_is_none, taken_keeps}

module _ (program : List Instruction) (e : ExchangeData) (at : ℕ) (is : e.phase ≡ Running) where
  -- what is left at this place
  abbrev left_here : ℕ
  left_here = left_in program e.restarts_left Running (InText at)

  -- a place behind an instruction is nearer to the end
  further_on : (next : ℕ) → at < next → at < length program → left_in program e.restarts_left e.phase (InText next) < left_here
  further_on next later within =
      subst (λ p. left_in program e.restarts_left p (InText next) < left_here) (sym is) (omega (arith, later, within))

  past_later : (k : ℕ) → at < length program → at < past program at k
  past_later k within = omega (arith, within)

  begun_nearer : (left : ℕ) → e.restarts_left ≡ left → left_of program (begun_again left e) < left_here
  begun_nearer zero none = omega arith
  begun_nearer (suc left) some =
      let whole : suc left * (length program + 2) ≡ left * (length program + 2) + (length program + 2) = suc-mul left (length program + 2) in
      let here : left_here ≡ suc left * (length program + 2) + (length program - at) + 1 =
      ap (λ n. n * (length program + 2) + (length program - at) + 1) some in
      subst (λ p. left_in program left p (InText 0) < left_here) (sym is) (omega (arith, whole, here))

module _ (program : List Instruction) (e : ExchangeData) (at : ℕ) (is : e.phase ≡ Running) where
  acted_nearer : (a : Action) (effect : Effect) → at < length program → left_of program (acted a effect (suc at) e) < left_here program e at is
  acted_nearer a (Takes (Go x)) within = further_on program e at is (suc at) (omega arith) within
  acted_nearer a (Takes (Stop x)) within = omega arith
  acted_nearer a (Asks limit) within = omega arith
  acted_nearer a ReadsContent within = omega arith
  acted_nearer a (LooksUp location listing) within = omega arith
  acted_nearer a BeginsAgain within = begun_nearer program (after a e) at is e.restarts_left refl
  acted_nearer a GoesToDefault within = omega arith

  taken_nearer : (o : Option Instruction) → slice_get program at ≡ o → left_of program (taken program o at e) < left_here program e at is
  taken_nearer None none = omega arith
  taken_nearer (Some (Ask test holds fails)) some =
      let within = slice_get_within program at (Ask test holds fails) some in
      let h = held (test_of test e.request e.stand.state e.moment) e.stand.state in
      let k : ℕ = if h.holds then holds else fails in
      further_on program e at is (past program at k) (past_later program e at is k within) within
  taken_nearer (Some (Do a)) some =
      acted_nearer a (effect_of a e.request e.stand.state e.moment) (slice_get_within program at (Do a) some)
  taken_nearer (Some (Skip k)) some =
      let within = slice_get_within program at (Skip k) some in
      further_on program e at is (past program at k) (past_later program e at is k within) within

-- WHAT IS LEFT, WITH ALL THAT IS TO BE WAITED FOR

module _ (program : List Instruction) (e : ExchangeData) (at : ℕ) (is : e.phase ≡ Running) where
  -- running on, at a place that is nearer
  walks_on : (next : ℕ) → at < next → walk_from e.phase (places_from program e.restarts_left (InText next)) ≤ 2 * left_here program e at is
  walks_on next later =
      subst (λ p. walk_from p (places_from program e.restarts_left (InText next)) ≤ 2 * left_here program e at is) (sym is)
      (omega (arith, later))

  begun_walks : (left : ℕ) → e.restarts_left ≡ left → walk_left program (begun_again left e) ≤ 2 * left_here program e at is
  begun_walks zero none = omega arith
  begun_walks (suc left) some =
      let whole : suc left * (length program + 2) ≡ left * (length program + 2) + (length program + 2) = suc-mul left (length program + 2) in
      let here : left_here program e at is ≡ suc left * (length program + 2) + (length program - at) + 1 =
      ap (λ n. n * (length program + 2) + (length program - at) + 1) some in
      subst (λ p. walk_from p (places_from program left (InText 0)) ≤ 2 * left_here program e at is) (sym is) (omega (arith, whole, here))

module _ (program : List Instruction) (e : ExchangeData) (at : ℕ) (is : e.phase ≡ Running) where
  acted_walks : (a : Action) (effect : Effect) → at < length program →
      walk_left program (acted a effect (suc at) e) ≤ 2 * left_here program e at is
  acted_walks a (Takes (Go x)) within = walks_on program e at is (suc at) (omega arith)
  acted_walks a (Takes (Stop x)) within = omega arith
  acted_walks a (Asks limit) within = omega (arith, within)
  acted_walks a ReadsContent within = omega (arith, within)
  acted_walks a (LooksUp location listing) within = omega (arith, within)
  acted_walks a BeginsAgain within = begun_walks program (after a e) at is e.restarts_left refl
  acted_walks a GoesToDefault within = omega arith

  taken_walks : (o : Option Instruction) → slice_get program at ≡ o → walk_left program (taken program o at e) ≤ 2 * left_here program e at is
  taken_walks None none = omega arith
  taken_walks (Some (Ask test holds fails)) some =
      let within = slice_get_within program at (Ask test holds fails) some in
      let h = held (test_of test e.request e.stand.state e.moment) e.stand.state in
      let k : ℕ = if h.holds then holds else fails in
      walks_on program e at is (past program at k) (past_later program e at is k within)
  taken_walks (Some (Do a)) some =
      acted_walks a (effect_of a e.request e.stand.state e.moment) (slice_get_within program at (Do a) some)
  taken_walks (Some (Skip k)) some =
      walks_on program e at is (past program at k) (past_later program e at is k (slice_get_within program at (Skip k) some))

-- an exchange with the same numbers, request and moment
record Same (old new : ExchangeData) : Type 0 where
  connection : new.connection ≡ old.connection
  number : new.number ≡ old.number
  request : new.request ≡ old.request
  moment : new.moment ≡ old.moment

begun_same : (left : ℕ) (e : ExchangeData) → Same e (begun_again left e)
begun_same zero e = record { connection = refl; number = refl; request = refl; moment = refl }
begun_same (suc left) e = record { connection = refl; number = refl; request = refl; moment = refl }

acted_same : (a : Action) (effect : Effect) (next : ℕ) (e : ExchangeData) → Same e (acted a effect next e)
acted_same a (Takes (Go x)) next e = record { connection = refl; number = refl; request = refl; moment = refl }
acted_same a (Takes (Stop x)) next e = record { connection = refl; number = refl; request = refl; moment = refl }
acted_same a (Asks limit) next e = record { connection = refl; number = refl; request = refl; moment = refl }
acted_same a ReadsContent next e = record { connection = refl; number = refl; request = refl; moment = refl }
acted_same a (LooksUp location listing) next e = record { connection = refl; number = refl; request = refl; moment = refl }
acted_same a BeginsAgain next e =
    let s = begun_same e.restarts_left (after a e) in
    record { connection = s.connection; number = s.number; request = s.request; moment = s.moment }
acted_same a GoesToDefault next e = record { connection = refl; number = refl; request = refl; moment = refl }

taken_same : (program : List Instruction) (o : Option Instruction) (at : ℕ) (e : ExchangeData) → Same e (taken program o at e)
taken_same program None at e = record { connection = refl; number = refl; request = refl; moment = refl }
taken_same program (Some (Ask test holds fails)) at e = record { connection = refl; number = refl; request = refl; moment = refl }
taken_same program (Some (Do a)) at e = acted_same a (effect_of a e.request e.stand.state e.moment) (suc at) e
taken_same program (Some (Skip k)) at e = record { connection = refl; number = refl; request = refl; moment = refl }

-- one step from before any `blocking` is none after one
before : (mark : Mark) → mark ≡ Free → after_step mark ≡ Worked → ⊥
before Free is worked = absurd cc
before Passed is worked = absurd cc
before Worked is worked = absurd cc

passing : (mark : Mark) → mark ≡ Free → after_blocking mark ≡ Worked → ⊥
passing Free is worked = absurd cc
passing Passed is worked = absurd cc
passing Worked is worked = absurd cc

pub still : (mark : Mark) → mark ≡ Free → mark ≡ Worked → ⊥
still Free is worked = absurd cc
still Passed is worked = absurd cc
still Worked is worked = absurd cc

action_before : (a : Action) (mark : Mark) → mark ≡ Free → after_action a mark ≡ Worked → ⊥
action_before Blocking mark is = passing mark is
action_before (Set t v) mark is = before mark is
action_before (Clear t) mark is = before mark is
action_before (Rewrite v) mark is = before mark is
action_before (Redirect v) mark is = before mark is
action_before (ResponseCode n) mark is = before mark is
action_before (Header n v r) mark is = before mark is
action_before (AllowedMethods ms) mark is = before mark is
action_before (RequestLimit n k) mark is = before mark is
action_before (Resource l k) mark is = before mark is
action_before (AccessLog n f) mark is = before mark is
action_before Echo mark is = before mark is
action_before Restart mark is = before mark is
action_before Done mark is = before mark is

begun_unworked : (left : ℕ) (e : ExchangeData) → (e.stand.mark ≡ Worked → ⊥) → (begun_again left e).stand.mark ≡ Worked → ⊥
begun_unworked zero e free = free
begun_unworked (suc left) e free = free

acted_unworked : (a : Action) (effect : Effect) (next : ℕ) (e : ExchangeData) → e.stand.mark ≡ Free → (acted a effect next e).stand.mark ≡ Worked → ⊥
acted_unworked a (Takes (Go x)) next e is = action_before a e.stand.mark is
acted_unworked a (Takes (Stop x)) next e is = action_before a e.stand.mark is
acted_unworked a (Asks limit) next e is = still e.stand.mark is
acted_unworked a ReadsContent next e is = still e.stand.mark is
acted_unworked a (LooksUp location listing) next e is = still e.stand.mark is
acted_unworked a BeginsAgain next e is = begun_unworked e.restarts_left (after a e) (action_before a e.stand.mark is)
acted_unworked a GoesToDefault next e is = action_before a e.stand.mark is

taken_unworked : (program : List Instruction) (o : Option Instruction) (at : ℕ) (e : ExchangeData) → e.stand.mark ≡ Free →
    (taken program o at e).stand.mark ≡ Worked → ⊥
taken_unworked program None at e is = still e.stand.mark is
taken_unworked program (Some (Ask test holds fails)) at e is = before e.stand.mark is
taken_unworked program (Some (Do a)) at e is = acted_unworked a (effect_of a e.request e.stand.state e.moment) (suc at) e is
taken_unworked program (Some (Skip k)) at e is = still e.stand.mark is

pub taken_steps : (program : List Instruction) (e : ExchangeData) (at : ℕ) → e.phase ≡ Running → e.place ≡ InText at →
    Stepped program e (taken program (slice_get program at) at e)
taken_steps program e at is here =
    let s = taken_same program (slice_get program at) at e in
    let k = taken_keeps program (slice_get program at) at e is in
    record {
      plan = taken_plan program e at is here;
      unworked = taken_unworked program (slice_get program at) at e;
      nearer = subst (λ n. left_of program (taken program (slice_get program at) at e) < n)
          (sym (ap₂ (λ p w. left_in program e.restarts_left p w) is here))
          (taken_nearer program e at is (slice_get program at) refl);
      walks = subst (λ n. walk_left program (taken program (slice_get program at) at e) ≤ n)
          (sym (ap₂ (λ p w. walk_from p (places_from program e.restarts_left w)) is here))
          (taken_walks program e at is (slice_get program at) refl);
      adds = k.adds;
      unchosen = k.unchosen;
      unfiled = k.unfiled;
      connection = s.connection;
      number = s.number;
      request = s.request;
      moment = s.moment;
    }

pub not_found_steps : (program : List Instruction) (e : ExchangeData) → e.phase ≡ Running → e.place ≡ AtDefault →
    Stepped program e (stopped_with 404 e)
not_found_steps program e is here =
    record {
      plan = not_found_plan program e is here;
      unworked = still e.stand.mark;
      nearer = subst (λ n. 0 < n) (sym (ap₂ (λ p w. left_in program e.restarts_left p w) is here)) (omega arith);
      walks = zero-le;
      adds = ([], sym (append-nil e.stand.state.listeners));
      unchosen = λ unchosen live. absurd (live refl);
      unfiled = λ none. empty_is_none;
      connection = refl;
      number = refl;
      request = refl;
      moment = refl;
    }
