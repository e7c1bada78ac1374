use Rattle.std.proofs.Common.{◌≡◌, ℕ, Some, ap, subst, ◌∙◌}
use Rattle.tow_states.specs.Leaving.{left_in}
use Rattle.tow_stages.specs.Stages.{Base}
use Rattle.tow_turns.specs.Data.{base_of, stage_of}
use Rattle.tow_turns.specs.Listeners.{HasRun, Runs}
use Rattle.tow_turns.specs.Logging.{KeepsFaults, LeadsTelling}
use Rattle.tow_turns.specs.declared.stage.Stage.{Stage}
use Rattle.tow_turns.specs.declared.stage.Stage.TheVariants as stage
use Rattle.tow_turns.specs.declared.stage.Then.{Then}
use Rattle.tow_turns.specs.declared.stage.Then.TheVariants.{On}
use Rattle.tow_turns.proofs.Runs.{fewer_left, none_ran, ran_on, runs_fit}
use Rattle.tow_turns.proofs.Tellings.{faults_both, faults_kept, stays, then_tells}
use Rattle.tow_turns.proofs.closing.close_on.Goals as goal

pub listeners-init : goal.listeners-init
listeners-init g c =
    let b = base_of g.L.Link.shows c.args.base.now in
    let log = Some (g.G.LogSink.shows c.args.log.now) in
    record {
      ran = none_ran b c.args.completing;
      faults = faults_kept c.args.base.now.number log;
      steps = λ s. stays s log b (stage_of (stage.Closing c.args.completing));
    }

pub listeners-preserved : goal.listeners-preserved
listeners-preserved g c =
    let shows = g.L.Link.shows in
    let k = c.args.base.now.number in
    let i = c.listeners.invariant in
    let a = base_of shows c.args.base.now in
    let b = base_of shows c.listeners.base in
    let after = base_of shows c.close_by-stage.new.base in
    let at_b : b.number ≡ k = ap (λ (x : Base). x.number) i.ran.base in
    let at : after.number ≡ k = ap (λ (x : Base). x.number) c.close_by-stage.ensures.base ∙ at_b in
    let one = Some (g.G.LogSink.shows c.args.log.now) in
    let two = Some (g.G.LogSink.shows c.listeners.log) in
    let three = Some (g.G.LogSink.shows c.close_by-stage.new.log) in
    let later : KeepsFaults k two three = subst (λ (n : ℕ). KeepsFaults n two three) at_b c.close_by-stage.ensures.faults in
    let run : HasRun (left_in c.listeners.completing.owed c.listeners.completing.closing) c.listeners.completing.end c.in-Closing.next On =
    subst (λ (f : Then). HasRun (left_in c.listeners.completing.owed c.listeners.completing.closing) c.listeners.completing.end c.in-Closing.next f) c.in-On.is
    (subst (λ (x : Stage). Runs (left_in c.listeners.completing.owed c.listeners.completing.closing) c.listeners.completing.end x c.close_by-stage.result.1)
    c.in-Closing.is c.close_by-stage.ensures.runs) in
    record {
      ran = ran_on a b after c.args.completing c.listeners.completing c.in-Closing.next i.ran run c.close_by-stage.ensures.base;
      faults = faults_both k one two three i.faults later;
      steps = λ s. then_tells k s one two three a b after (stage_of (stage.Closing c.args.completing))
          (stage_of (stage.Closing c.listeners.completing)) (stage_of (stage.Closing c.in-Closing.next)) at_b at i.faults later (i.steps s)
          (subst (λ (x : Stage). LeadsTelling two three s b after (stage_of (stage.Closing c.listeners.completing)) (stage_of x)) c.in-Closing.is
          (c.close_by-stage.ensures.steps s));
    }

pub listeners-smaller : goal.listeners-smaller
listeners-smaller g c =
    fewer_left c.listeners.completing c.in-Closing.next
    (subst (λ (f : Then). HasRun (left_in c.listeners.completing.owed c.listeners.completing.closing) c.listeners.completing.end c.in-Closing.next f) c.in-On.is
    (subst (λ (x : Stage). Runs (left_in c.listeners.completing.owed c.listeners.completing.closing) c.listeners.completing.end x c.close_by-stage.result.1)
    c.in-Closing.is c.close_by-stage.ensures.runs))

pub returns-in_default : goal.returns-in_default
returns-in_default g c =
    let shows = g.L.Link.shows in
    let k = c.args.base.now.number in
    let i = c.listeners.invariant in
    let a = base_of shows c.args.base.now in
    let b = base_of shows c.listeners.base in
    let after = base_of shows c.close_by-stage.new.base in
    let at_b : b.number ≡ k = ap (λ (x : Base). x.number) i.ran.base in
    let at : after.number ≡ k = ap (λ (x : Base). x.number) c.close_by-stage.ensures.base ∙ at_b in
    let one = Some (g.G.LogSink.shows c.args.log.now) in
    let two = Some (g.G.LogSink.shows c.listeners.log) in
    let three = Some (g.G.LogSink.shows c.close_by-stage.new.log) in
    let later : KeepsFaults k two three = subst (λ (n : ℕ). KeepsFaults n two three) at_b c.close_by-stage.ensures.faults in
    record {
      steps = λ s. then_tells k s one two three a b after (stage_of (stage.Closing c.args.completing))
          (stage_of (stage.Closing c.listeners.completing)) (stage_of c.close_by-stage.result.0) at_b at i.faults later (i.steps s) (c.close_by-stage.ensures.steps s);
      fits = λ role tree told n n' loop safe. runs_fit role tree told n n' a b after c.args.completing c.listeners.completing i.ran
          c.close_by-stage.ensures.base loop safe c.close_by-stage.result.0 c.close_by-stage.result.1 (λ new is. c.in_default.not-On)
          c.close_by-stage.ensures.runs;
      faults = faults_both k one two three i.faults later;
    }

pub returns-in_default-stage : goal.returns-in_default-stage
returns-in_default-stage g c =
    let shows = g.L.Link.shows in
    let k = c.args.base.now.number in
    let i = c.listeners.invariant in
    let a = base_of shows c.args.base.now in
    let b = base_of shows c.listeners.base in
    let after = base_of shows c.close_by-stage.new.base in
    let at_b : b.number ≡ k = ap (λ (x : Base). x.number) i.ran.base in
    let at : after.number ≡ k = ap (λ (x : Base). x.number) c.close_by-stage.ensures.base ∙ at_b in
    let one = Some (g.G.LogSink.shows c.args.log.now) in
    let two = Some (g.G.LogSink.shows c.listeners.log) in
    let three = Some (g.G.LogSink.shows c.close_by-stage.new.log) in
    let later : KeepsFaults k two three = subst (λ (n : ℕ). KeepsFaults n two three) at_b c.close_by-stage.ensures.faults in
    record {
      steps = λ s. then_tells k s one two three a b after (stage_of (stage.Closing c.args.completing))
          (stage_of (stage.Closing c.listeners.completing)) (stage_of c.close_by-stage.result.0) at_b at i.faults later (i.steps s) (c.close_by-stage.ensures.steps s);
      fits = λ role tree told n n' loop safe. runs_fit role tree told n n' a b after c.args.completing c.listeners.completing i.ran
          c.close_by-stage.ensures.base loop safe c.close_by-stage.result.0 c.close_by-stage.result.1
          (λ new is. absurd (c.in_default-stage.not-Closing new is)) c.close_by-stage.ensures.runs;
      faults = faults_both k one two three i.faults later;
    }
