-- How walks go on one after another, and what a look leaves.
use Rattle.std.proofs.Common.{◌≡◌, ◌≢◌, inl, inr, ℕ, zero, suc, ◌+◌, ◌*◌, ◌<◌, Bool, List, [], Option, refl, sym, ap, subst, ◌∙◌, append-nil, arith}
use Rattle.tow_model.specs.declared.record.Listener.{Listener}
use Rattle.tow_model.specs.declared.statement.Statement.{Statement}
use Rattle.tow_model.specs.Texts.{Text}
use Rattle.tow_semantics.specs.Files.{Files}
use Rattle.tow_semantics.specs.Pages.{Found, Serve, Redirect, Listing, Forbidden, NotModified, NotFound, BadMethod}
use Rattle.tow_exchange.specs.Exchanges.{ExchangeData, page_given, with_fields}
use Rattle.tow_exchange.specs.Waiting.{AwaitsSomePage}
use Rattle.tow_exchange.specs.declared.phase.Phase.{Phase}
use Rattle.tow_exchange.specs.declared.phase.Phase.TheVariants.{AwaitsPage, Stopped}
use Rattle.tow_program.specs.declared.instruction.Instruction.{Instruction}
use Rattle.tow_advance.specs.Moves.{AddsLogs, IsUnchosen, places_from, walk_from, walk_left}
use Rattle.tow_advance.proofs.Adding.{adds_further}
use Rattle.tow_course.specs.Course.{Advances}
use Rattle.tow_walks.specs.Walks.{BreaksOff, IsCutShort, Keeps, LacksPage, Looks, Walks, WalksBy}

adds_none : (listeners : List Listener) → AddsLogs listeners listeners
adds_none listeners = ([], sym (append-nil listeners))

-- ---- one after another

module _ (tree : List Statement) where
  pub no_step : (e : ExchangeData) → Advances tree e e
  no_step e = record { plan = refl; adds = adds_none e.stand.state.listeners; unchosen = λ live. live; request = refl; moment = refl }

  pub step_on : (a b c : ExchangeData) → Advances tree a b → Advances tree b c → Advances tree a c
  step_on a b c first second = record {
    plan = second.plan ∙ first.plan;
    adds = adds_further _ _ _ first.adds second.adds;
    unchosen = λ live. second.unchosen (first.unchosen live);
    request = second.request ∙ first.request;
    moment = second.moment ∙ first.moment;
  }

  module _ (told : Option Files) where
    walk_step : (looks : ℕ) (a b c : ExchangeData) → WalksBy looks tree told a b → Advances tree b c → WalksBy looks tree told a c
    walk_step zero a b c first second = step_on a b c first second
    walk_step (suc looks) a b c (seen, given, walked, looked, goes) second =
        (seen, given, walked, looked, step_on given b c goes second)

    walk_further : (looks : ℕ) (a b c : ExchangeData) → Walks tree told a b → WalksBy looks tree told b c → Walks tree told a c
    walk_further zero a b c first second = record { looks = first.looks; steps = walk_step first.looks a b c first.steps second }
    walk_further (suc looks) a b c first (seen, given, walked, looked, goes) =
        let before = walk_further looks a b seen first walked in
        record { looks = suc before.looks; steps = (seen, given, before.steps, looked, goes) }

    pub walk_on : (a b c : ExchangeData) → Walks tree told a b → Walks tree told b c → Walks tree told a c
    walk_on a b c first second = walk_further second.looks a b c first second.steps

    pub no_walk : (e : ExchangeData) → Walks tree told e e
    no_walk e = record { looks = zero; steps = no_step e }

    pub by_step : (a b : ExchangeData) → Advances tree a b → Walks tree told a b
    by_step a b goes = record { looks = zero; steps = goes }

    pub by_look : (a b c : ExchangeData) → Advances tree a b → Looks told b c → Walks tree told a c
    by_look a b c goes looked = record { looks = suc zero; steps = (b, c, goes, looked, no_step c) }

    pub cut_later : (a b c : ExchangeData) → Walks tree told a b → IsCutShort tree told b c → IsCutShort tree told a c
    cut_later a b c first second =
        record { there = second.there; walks = walk_on a b second.there first second.walks; short = second.short }

    pub cut_in_step : (a b : ExchangeData) → BreaksOff tree a b → IsCutShort tree told a b
    cut_in_step a b breaks = record { there = a; walks = no_walk a; short = inl breaks }

    pub cut_at_page : (a b c : ExchangeData) → Advances tree a b → LacksPage b c → IsCutShort tree told a c
    cut_at_page a b c goes lacks = record { there = b; walks = by_step a b goes; short = inr lacks }

-- ---- what is left

module _ (program : List Instruction) where
  pub keeps_all : (e : ExchangeData) → Keeps program e e
  keeps_all e = record {
    adds = adds_none e.stand.state.listeners;
    unchosen = λ live. live;
    nearer = omega arith;
    connection = refl;
    number = refl;
    request = refl;
    moment = refl;
  }

  pub keeps_further : (a b c : ExchangeData) → Keeps program a b → Keeps program b c → Keeps program a c
  keeps_further a b c first second =
      let near = first.nearer in
      let nearer = second.nearer in
      record {
        adds = adds_further _ _ _ first.adds second.adds;
        unchosen = λ live. second.unchosen (first.unchosen live);
        nearer = omega (arith, near, nearer);
        connection = second.connection ∙ first.connection;
        number = second.number ∙ first.number;
        request = second.request ∙ first.request;
        moment = second.moment ∙ first.moment;
      }

  module _ (e : ExchangeData) (location : Text) (listing : Bool) (is : e.phase ≡ AwaitsPage location listing) where
    abbrev places : ℕ
    places = places_from program e.restarts_left e.place

    here : walk_left program e ≡ 2 * places + 1
    here = ap (λ p. walk_from p places) is

    given_nearer : (found : Found) → walk_left program (page_given found e) < walk_left program e
    given_nearer (Serve path len second) = let h = here in omega (arith, h)
    given_nearer (Redirect to) = let h = here in omega (arith, h)
    given_nearer (Listing bytes) = let h = here in omega (arith, h)
    given_nearer Forbidden = let h = here in omega (arith, h)
    given_nearer (NotModified second) = let h = here in omega (arith, h)
    given_nearer NotFound = let h = here in omega (arith, h)
    given_nearer BadMethod = let h = here in omega (arith, h)

    live : e.phase ≢ Stopped
    live stopped = let wrong : AwaitsPage location listing ≡ Stopped = sym is ∙ stopped in absurd cc

    ended : (new : ExchangeData) → new.phase ≡ Stopped → IsUnchosen e → IsUnchosen new
    ended new stopped first live = absurd (live stopped)

    given_unchosen : (found : Found) → IsUnchosen e → IsUnchosen (page_given found e)
    given_unchosen (Serve path len second) = ended (page_given (Serve path len second) e) refl
    given_unchosen (Redirect to) = ended (page_given (Redirect to) e) refl
    given_unchosen (Listing bytes) = ended (page_given (Listing bytes) e) refl
    given_unchosen Forbidden = ended (page_given Forbidden e) refl
    given_unchosen (NotModified second) = ended (page_given (NotModified second) e) refl
    given_unchosen NotFound = λ first running. first live
    given_unchosen BadMethod = ended (page_given BadMethod e) refl

  given_listeners : (e : ExchangeData) (found : Found) → (page_given found e).stand.state.listeners ≡ e.stand.state.listeners
  given_listeners e (Serve path len second) = refl
  given_listeners e (Redirect to) = refl
  given_listeners e (Listing bytes) = refl
  given_listeners e Forbidden = refl
  given_listeners e (NotModified second) = refl
  given_listeners e NotFound = refl
  given_listeners e BadMethod = refl

  -- the numbers, the request and the moment
  record SameRequest (old new : ExchangeData) : Type 0 where
    connection : new.connection ≡ old.connection
    number : new.number ≡ old.number
    request : new.request ≡ old.request
    moment : new.moment ≡ old.moment

  given_request : (e : ExchangeData) (found : Found) → SameRequest e (page_given found e)
  given_request e (Serve path len second) = record { connection = refl; number = refl; request = refl; moment = refl }
  given_request e (Redirect to) = record { connection = refl; number = refl; request = refl; moment = refl }
  given_request e (Listing bytes) = record { connection = refl; number = refl; request = refl; moment = refl }
  given_request e Forbidden = record { connection = refl; number = refl; request = refl; moment = refl }
  given_request e (NotModified second) = record { connection = refl; number = refl; request = refl; moment = refl }
  given_request e NotFound = record { connection = refl; number = refl; request = refl; moment = refl }
  given_request e BadMethod = record { connection = refl; number = refl; request = refl; moment = refl }

  pub look_nearer : (told : Option Files) (old new : ExchangeData) → Looks told old new → walk_left program new < walk_left program old
  look_nearer told old new looked =
      subst (λ (x : ExchangeData). walk_left program x < walk_left program old) (sym looked.given)
      (given_nearer old looked.location looked.listing looked.waits looked.found)

  pub look_keeps : (told : Option Files) (old new : ExchangeData) → Looks told old new → Keeps program old new
  look_keeps told old new looked =
      let same = given_request old looked.found in
      let near = given_nearer old looked.location looked.listing looked.waits looked.found in
      subst (λ (x : ExchangeData). Keeps program old x) (sym looked.given) (record {
        adds = ([], given_listeners old looked.found ∙ sym (append-nil old.stand.state.listeners));
        unchosen = given_unchosen old looked.location looked.listing looked.waits looked.found;
        nearer = omega (arith, near);
        connection = same.connection;
        number = same.number;
        request = same.request;
        moment = same.moment;
      })

  pub lack_keeps : (old new : ExchangeData) → new ≡ with_fields new.stand.state.fields old → Keeps program old new
  lack_keeps old new is = subst (λ (x : ExchangeData). Keeps program old x) (sym is) (record {
    adds = adds_none old.stand.state.listeners;
    unchosen = λ first live. first live;
    nearer = omega arith;
    connection = refl;
    number = refl;
    request = refl;
    moment = refl;
  })

-- a page that is waited for is one that can be given
pub some_page : (phase : Phase) (location : Text) (listing : Bool) → phase ≡ AwaitsPage location listing → AwaitsSomePage phase
some_page phase location listing is = subst AwaitsSomePage (sym is) tt
