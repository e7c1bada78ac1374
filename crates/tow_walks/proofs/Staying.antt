-- A walk stays on the course of its exchange.
use Rattle.std.proofs.Common.{◌≡◌, ◌≢◌, ◌⊎◌, inl, inr, ℕ, zero, suc, List, [], ◌++◌, Some, refl, sym, ap, ap₂, subst, ◌∙◌}
use Rattle.tow_model.specs.declared.request.Field.{Field}
use Rattle.tow_model.specs.declared.record.Record.{Record}
use Rattle.tow_model.specs.declared.statement.Statement.{Statement}
use Rattle.tow_semantics.specs.Files.{Files}
use Rattle.tow_semantics.specs.Pages.{found_page}
use Rattle.tow_semantics.specs.Walk.{Given}
use Rattle.tow_semantics.specs.Sites.{given}
use Rattle.tow_semantics.specs.Outcome.{outcome}
use Rattle.tow_exchange.specs.Exchanges.{ExchangeData, page_given}
use Rattle.tow_exchange.specs.Waiting.{AwaitsSomePage}
use Rattle.tow_exchange.specs.declared.phase.Phase.{Phase}
use Rattle.tow_exchange.specs.declared.phase.Phase.TheVariants.{Stopped}
use Rattle.tow_course.specs.Course.{Course, IsOnCourse, given_to, looked_in, verdicts_in}
use Rattle.tow_course.specs.Breaks.{IsBroken, IsFrontOf}
use Rattle.tow_course.proofs.Coursing.{course_advances, course_looks}
use Rattle.tow_course.proofs.Breaking.{course_breaks}
use Rattle.tow_walks.specs.Walks.{BreaksOff, LacksPage, Looks, WalksBy}
use Rattle.tow_walks.specs.Staying.{CutShortIsBroken, WalksStayOnCourse, looked_after}
use Rattle.tow_walks.proofs.Steps.{look_keeps}

looked_again : (looks : ℕ) (n : Course) → looked_in (looked_after looks n) ≡ looked_in n
looked_again zero n = refl
looked_again (suc looks) n = refl

module _ (tree : List Statement) (files : Files) where
  look_on : (old new : ExchangeData) (n : Course) → Looks (Some files) old new → IsOnCourse tree files old n → IsOnCourse tree files new (looked_in n)
  look_on old new n looked on =
      let there = course_looks tree files old n looked.location looked.listing looked.waits on in
      let same : new ≡ page_given (found_page files looked.location looked.listing old.request old.stand.state) old =
      looked.given ∙ ap (λ f. page_given f old) looked.is_found in
      subst (λ (x : ExchangeData). IsOnCourse tree files x (looked_in n)) (sym same) there

  walk_stays : (looks : ℕ) (old new : ExchangeData) (n : Course) → WalksBy looks tree (Some files) old new → IsOnCourse tree files old n →
      IsOnCourse tree files new (looked_after looks n)
  walk_stays zero old new n steps on = course_advances tree files old new n steps on
  walk_stays (suc looks) old new n (seen, given, walked, looked, goes) on =
      let there = look_on seen given (looked_after looks n) looked (walk_stays looks old seen n walked on) in
      let here = course_advances tree files given new (looked_in (looked_after looks n)) goes there in
      subst (λ (m : Course). IsOnCourse tree files new m) (looked_again looks n) here

  -- the request and the moment stay
  record SameGiven (old new : ExchangeData) : Type 0 where
    request : new.request ≡ old.request
    moment : new.moment ≡ old.moment

  look_given : (old new : ExchangeData) → Looks (Some files) old new → SameGiven old new
  look_given old new looked =
      let kept = look_keeps [] (Some files) old new looked in
      record { request = kept.request; moment = kept.moment }

  walk_given : (looks : ℕ) (old new : ExchangeData) → WalksBy looks tree (Some files) old new → SameGiven old new
  walk_given zero old new steps = record { request = steps.request; moment = steps.moment }
  walk_given (suc looks) old new (seen, given, walked, looked, goes) =
      let before = walk_given looks old seen walked in
      let look = look_given seen given looked in
      record {
        request = goes.request ∙ look.request ∙ before.request;
        moment = goes.moment ∙ look.moment ∙ before.moment;
      }

  -- of another exchange with the same request and moment
  broken_as : (old e : ExchangeData) (n : Course) (x : Record) → SameGiven old e → IsBroken tree files e n x → IsBroken tree files old n x
  broken_as old e n x same broken = record {
    front = λ content agrees more.
        let is : given_to files e content ≡ given_to files old content = ap₂ (λ q m. given files q m content) same.request same.moment in
        subst (λ (g : Given). IsFrontOf x n (outcome tree g (verdicts_in n ++ more))) is (broken.front content agrees more);
    choice = broken.choice;
    inside = broken.inside;
  }

  -- with other fields
  broken_with : (e : ExchangeData) (n : Course) (x : Record) (fields : List Field) → IsBroken tree files e n x →
      IsBroken tree files e n (record x { fields = fields })
  broken_with e n x fields broken = record {
    front = λ content agrees more.
        let f = broken.front content agrees more in
        record { listeners = f.listeners; entries = f.entries };
    choice = broken.choice;
    inside = broken.inside;
  }

  waits_live : (phase : Phase) → AwaitsSomePage phase → phase ≢ Stopped
  waits_live phase waits stopped = subst AwaitsSomePage stopped waits

  short_broken : (e new : ExchangeData) (n : Course) → BreaksOff tree e new ⊎ LacksPage e new → IsOnCourse tree files e n →
      IsBroken tree files e n new.stand.state
  short_broken e new n (inl breaks) on =
      (course_breaks tree files e n on).there new breaks.under breaks.live breaks.adds breaks.unchosen
  short_broken e new n (inr lacks) on =
      let here = (course_breaks tree files e n on).here (waits_live e.phase lacks.waits) in
      let is : new.stand.state ≡ record e.stand.state { fields = new.stand.state.fields } = ap (λ (y : ExchangeData). y.stand.state) lacks.fields in
      subst (λ (x : Record). IsBroken tree files e n x) (sym is) (broken_with e n e.stand.state new.stand.state.fields here)

pub walks_stay_on_course : WalksStayOnCourse
walks_stay_on_course tree files old new n w on = walk_stays tree files w.looks old new n w.steps on

pub cut_short_is_broken : CutShortIsBroken
cut_short_is_broken tree files old new n c on =
    let m = looked_after c.walks.looks n in
    broken_as tree files old c.there m new.stand.state (walk_given tree files c.walks.looks old c.there c.walks.steps)
    (short_broken tree files c.there new m c.short (walk_stays tree files c.walks.looks old c.there n c.walks.steps on))
