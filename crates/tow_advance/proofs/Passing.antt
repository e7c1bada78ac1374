-- Passing over tests of literal paths that fail leaves the plan, and so does the step that does it first.
use Rattle.std.proofs.Common.{◌≡◌, ◌≢◌, ℕ, zero, suc, ◌+◌, ◌-◌, ◌<◌, ◌≤◌, ◌⊎◌, inl, inr, List, [], ◌++◌, map, length, drop, slice_get, refl, sym, ap, ap₂, subst, ◌∙◌, arith}
use Rattle.std.proofs.lemmas.Bool.{cases_lt}
use Rattle.tow_model.specs.declared.request.Field.{Field}
use Rattle.tow_model.specs.declared.record.Record.{Record}
use Rattle.tow_model.specs.declared.record.Listener.TheVariants.{Log}
use Rattle.tow_semantics.specs.Plans.{Mark, Free, Passed, Worked, Stand, after_step}
use Rattle.tow_exchange.specs.Exchanges.{ExchangeData, after_test, moved_to}
use Rattle.tow_exchange.specs.declared.phase.Phase.{Phase}
use Rattle.tow_exchange.specs.declared.phase.Phase.TheVariants.{Running}
use Rattle.tow_exchange.specs.declared.place.Place.{Place}
use Rattle.tow_exchange.specs.declared.place.Place.TheVariants.{InText}
use Rattle.tow_program.specs.declared.instruction.Instruction.{Instruction}
use Rattle.tow_program.specs.Runs.{way_in}
use Rattle.tow_program.specs.Skips.{skipped}
use Rattle.tow_program.proofs.Skipping.{skipped_are_asked}
use Rattle.tow_advance.specs.Under.{way_at, plan_at, plan_in}
use Rattle.tow_advance.specs.Moves.{left_in, left_of, places_from, walk_from, walk_left, with_context, taken, PassedOver, Stepped, Halted}
use Rattle.tow_advance.proofs.Adding.{same_is_none}
use Rattle.tow_advance.proofs.Nearing.{still, taken_steps}

free_stays : (mark : Mark) → mark ≡ Free → after_step mark ≡ Free
free_stays Free is = refl
free_stays Passed is = absurd cc
free_stays Worked is = absurd cc

stands : (program : List Instruction) (e : ExchangeData) → PassedOver program e e
stands program e = record {
  plan = refl;
  free = λ is. is;
  left = omega arith;
  walks = omega arith;
  state = refl;
  phase = refl;
  connection = refl;
  number = refl;
  request = refl;
  moment = refl;
}

module _ (program : List Instruction) (e : ExchangeData) (at : ℕ) (is : e.phase ≡ Running) (here : e.place ≡ InText at) where
  abbrev to : ℕ
  to = skipped program e.stand.state.path at

  abbrev there : ExchangeData
  there = moved_to (InText to) (after_test e)

  later : to ≢ at → at < to
  later further = by (cases_lt at to)
    where
      by : (at < to) ⊎ (to ≤ at) → at < to
      by (inl low) = low
      by (inr high) = let same : to ≡ at = omega (arith, high) in absurd (further same)

  same_plan : to ≢ at → plan_in program there ≡ plan_in program e
  same_plan further =
      ap (λ (p : Phase). plan_at p (InText to) there.stand (way_in program e.request e.moment e.restarts_left to)) is
      ∙ sym (skipped_are_asked program e.request e.moment e.restarts_left at e.stand further)
      ∙ sym (ap₂ (λ p w. plan_at p w e.stand (way_at program e.request e.moment e.restarts_left w)) is here)

  no_more : to ≢ at → left_of program there ≤ left_of program e
  no_more further =
      let low : at < to = later further in
      subst (λ n. left_of program there ≤ n) (sym (ap₂ (λ p w. left_in program e.restarts_left p w) is here))
      (subst (λ p. left_in program e.restarts_left p (InText to) ≤ left_in program e.restarts_left Running (InText at)) (sym is) (omega (arith, low)))

  no_longer : to ≢ at → walk_left program there ≤ walk_left program e
  no_longer further =
      let low : at < to = later further in
      subst (λ n. walk_left program there ≤ n) (sym (ap₂ (λ p w. walk_from p (places_from program e.restarts_left w)) is here))
      (subst (λ p. walk_from p (places_from program e.restarts_left (InText to)) ≤ walk_from Running (places_from program e.restarts_left (InText at))) (sym is) (omega (arith, low)))

  moved : to ≢ at → PassedOver program e there
  moved further = record {
    plan = same_plan further;
    free = free_stays e.stand.mark;
    left = no_more further;
    walks = no_longer further;
    state = refl;
    phase = refl;
    connection = refl;
    number = refl;
    request = refl;
    moment = refl;
  }

  -- as the code does it
  pub passes : (n : ℕ) (p : ExchangeData) → n ≡ to → (n ≡ at → p ≡ e) → (n ≢ at → p ≡ moved_to (InText n) (after_test e)) →
      PassedOver program e p
  passes n p goes stays moves_on = by (cases_lt at to)
    where
      by : (at < to) ⊎ (to ≤ at) → PassedOver program e p
      by (inl low) =
          let further : n ≢ at = λ same. omega (arith, low, same, goes) in
          let passed_on : to ≢ at = λ same. omega (arith, low, same) in
          let new : p ≡ there = moves_on further ∙ ap (λ k. moved_to (InText k) (after_test e)) goes in
          subst (PassedOver program e) (sym new) (moved passed_on)
      by (inr high) =
          let same : n ≡ at = omega (arith, high, goes) in
          subst (PassedOver program e) (sym (stays same)) (stands program e)

  pub passes_to : (n : ℕ) (p : ExchangeData) → n ≡ to → (n ≡ at → p ≡ e) → (n ≢ at → p ≡ moved_to (InText n) (after_test e)) → p.place ≡ InText n
  passes_to n p goes stays moves_on = by (cases_lt at to)
    where
      by : (at < to) ⊎ (to ≤ at) → p.place ≡ InText n
      by (inl low) =
          let further : n ≢ at = λ same. omega (arith, low, same, goes) in
          ap (λ (x : ExchangeData). x.place) (moves_on further)
      by (inr high) =
          let same : n ≡ at = omega (arith, high, goes) in
          ap (λ (x : ExchangeData). x.place) (stays same) ∙ here ∙ ap InText (sym same)

module _ (program : List Instruction) (old e new : ExchangeData) (p : PassedOver program old e) where
  -- a step that begins by passing over tests
  pub steps_on : Stepped program e new → Stepped program old new
  steps_on s = record {
    plan = s.plan ∙ p.plan;
    unworked = λ is worked. s.unworked (p.free is) worked;
    nearer = (let a = s.nearer in let b = p.left in omega (arith, a, b));
    walks = (let a = s.walks in let b = p.walks in omega (arith, a, b));
    adds = (s.adds.0, s.adds.1 ∙ ap (λ (x : Record). x.listeners ++ map Log s.adds.0) p.state);
    unchosen = λ unchosen. s.unchosen (λ live. ap (λ (x : Record). x.choice) p.state ∙ unchosen (λ ended. live (p.phase ∙ ended)));
    unfiled = λ none. s.unfiled (same_is_none old.stand.state.choice e.stand.state.choice (ap (λ (x : Record). x.choice) p.state) none);
    connection = s.connection ∙ p.connection;
    number = s.number ∙ p.number;
    request = s.request ∙ p.request;
    moment = s.moment ∙ p.moment;
  }

  pub halts : new ≡ with_context new.stand.state.context e → Halted program old new
  halts left = record {
    way = (e, p.plan, left);
    unworked = λ is. still new.stand.mark (ap (λ (x : ExchangeData). x.stand.mark) left ∙ p.free is);
    walks = (let a : walk_left program new ≡ walk_left program e = ap (walk_left program) left in let b = p.walks in omega (arith, a, b));
    phase = ap (λ (x : ExchangeData). x.phase) left ∙ p.phase;
    listeners = ap (λ (x : ExchangeData). x.stand.state.listeners) left ∙ ap (λ (x : Record). x.listeners) p.state;
    choice = ap (λ (x : ExchangeData). x.stand.state.choice) left ∙ ap (λ (x : Record). x.choice) p.state;
    connection = ap (λ (x : ExchangeData). x.connection) left ∙ p.connection;
    number = ap (λ (x : ExchangeData). x.number) left ∙ p.number;
    request = ap (λ (x : ExchangeData). x.request) left ∙ p.request;
    moment = ap (λ (x : ExchangeData). x.moment) left ∙ p.moment;
  }

-- and takes the instruction that it comes to
pub takes_on : (program : List Instruction) (old e new : ExchangeData) (at : ℕ) → PassedOver program old e → e.phase ≡ Running → e.place ≡ InText at →
    new ≡ taken program (slice_get program at) at e → Stepped program old new
takes_on program old e new at p runs there is =
    steps_on program old e new p (subst (Stepped program e) (sym is) (taken_steps program e at runs there))
