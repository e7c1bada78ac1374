-- What an exchange that is cut short has done is a front of what its outcome does.
use Rattle.std.proofs.Common.{◌≡◌, ◌≢◌, ℕ, List, count_by, Option, refl, sym, ap, ◌∙◌, subst}
use Rattle.tow_model.specs.declared.content.Content.{Content}
use Rattle.tow_model.specs.declared.record.Record.{Record}
use Rattle.tow_model.specs.declared.record.Listener.{Listener}
use Rattle.tow_model.specs.declared.account.Verdict.{Verdict}
use Rattle.tow_model.specs.declared.statement.Statement.{Statement}
use Rattle.tow_model.specs.Lists.{IsPrefix}
use Rattle.tow_semantics.specs.Files.{Files}
use Rattle.tow_semantics.specs.Runs.{Walked}
use Rattle.tow_semantics.specs.Walk.{Notes}
use Rattle.tow_semantics.specs.Outcome.{played}
use Rattle.tow_exchange.specs.Exchanges.{ExchangeData}
use Rattle.tow_exchange.specs.declared.phase.Phase.TheVariants.{Stopped}
use Rattle.tow_program.specs.Programs.{program_of}
use Rattle.tow_advance.specs.Moves.{AddsLogs, IsUnchosen}
use Rattle.tow_advance.specs.Needs.{IsUnderWay}
use Rattle.tow_advance.specs.Under.{plan_in}
use Rattle.tow_course.specs.Course.{Course, notes_of, Agrees, given_to, outcome_with, IsOnCourse}
use Rattle.tow_course.specs.Breaks.{IsFrontOf, IsBroken, Breaks, CourseBreaks}
use Rattle.tow_course.proofs.Coursing.{logs_leave_none}
use Rattle.tow_course.proofs.Growing.{exchange_widens}
use Rattle.tow_course.proofs.Widening.{play_enters}

module _ (tree : List Statement) (files : Files) (e : ExchangeData) (n : Course) (on : IsOnCourse tree files e n) where
  -- an exchange with what is left to play of e
  fronts : (x : ExchangeData) → plan_in (program_of tree) x ≡ plan_in (program_of tree) e
      → (content : Option Content) → Agrees n.content content → (more : List Verdict)
      → IsFrontOf x.stand.state n (outcome_with tree files e n content more)
  fronts x same content agrees more =
      let g = given_to files e content in
      let k = notes_of n more in
      let is : played g (plan_in (program_of tree) x) k ≡ outcome_with tree files e n content more =
      ap (λ p. played g p k) same ∙ sym (on.plays content agrees more) in
      subst (IsFrontOf x.stand.state n) is (record {
        listeners = exchange_widens (program_of tree) x g k;
        entries = play_enters g (plan_in (program_of tree) x) k;
      })

  breaks_here : e.phase ≢ Stopped → IsBroken tree files e n e.stand.state
  breaks_here live = record { front = fronts e refl; choice = on.unchosen live; inside = on.inside }

  breaks_there : (new : ExchangeData) → IsUnderWay (program_of tree) e new → new.phase ≢ Stopped
      → AddsLogs e.stand.state.listeners new.stand.state.listeners → (IsUnchosen e → IsUnchosen new)
      → IsBroken tree files e n new.stand.state
  breaks_there new under live adds unchosen =
      let x = under.0 in
      let same : new.stand.state.listeners ≡ x.stand.state.listeners = ap (λ (y : ExchangeData). y.stand.state.listeners) under.2 in
      record {
        front = λ content agrees more.
            let f = fronts x under.1 content agrees more in
            record {
              listeners = subst (λ (l : List Listener). IsPrefix l (outcome_with tree files e n content more).outcome.state.listeners)
                  (sym same) f.listeners;
              entries = f.entries;
            };
        choice = unchosen on.unchosen live;
        inside = λ limit. on.inside limit ∙ sym (logs_leave_none limit e.stand.state.listeners new.stand.state.listeners adds);
      }

pub course_breaks : CourseBreaks
course_breaks tree files e n on = record { here = breaks_here tree files e n on; there = breaks_there tree files e n on }
