use Rattle.std.proofs.Common.{◌≡◌, List, Option, refl, sym, subst}
use Rattle.tow_model.specs.declared.statement.Statement.{Statement}
use Rattle.tow_semantics.specs.Files.{Files}
use Rattle.tow_states.specs.Known.{Setting}
use Rattle.tow_stages.specs.Stages as model
use Rattle.tow_turns.specs.declared.stage.Stage.{Stage}
use Rattle.tow_turns.specs.declared.stage.Stage.TheVariants as stage
use Rattle.tow_turns.specs.Cuts.{IsLive, MayBeCut}
use Rattle.tow_turns.specs.Data.{stage_of}
use Rattle.tow_turns.specs.Safe.{IsSafe}
use Rattle.tow_turns.specs.Steps.{Leads}
use Rattle.tow_turns.proofs.Cuts.{answer_leaves, cut_answering, cut_gathering, cut_reading, cut_refusing, cut_walking, ends_so, open_leaves, rests}
use Rattle.tow_turns.proofs.cutting.cut.Goals as goal

early_in : (stage other : Stage) → stage ≡ other → MayBeCut (stage_of stage) → MayBeCut (stage_of other)
early_in stage other is = subst (λ (x : Stage). MayBeCut (stage_of x)) is

safe_in : (tree : List Statement) (told : Option Files) (b : model.Base) (stage other : Stage) → stage ≡ other
    → IsSafe tree told b (stage_of stage) → IsSafe tree told b (stage_of other)
safe_in tree told b stage other is = subst (λ (x : Stage). IsSafe tree told b (stage_of x)) is

live_in : (stage other : Stage) → stage ≡ other → IsLive (stage_of stage) → IsLive (stage_of other)
live_in stage other is = subst (λ (x : Stage). IsLive (stage_of x)) is

from_stage : (s : Setting) (b : model.Base) (stage other : Stage) (after : model.Stage) → stage ≡ other
    → Leads s b b (stage_of other) after → Leads s b b (stage_of stage) after
from_stage s b stage other after is = subst (λ (x : Stage). Leads s b b (stage_of x) after) (sym is)

pub work_of-requires : goal.work_of-requires
work_of-requires c =
    record { dated = (early_in c.args.stage (stage.Walking c.in-Walking.exchange) c.in-Walking.is c.requires.early).0 }

pub work_of-requires-in-Gathering : goal.work_of-requires-in-Gathering
work_of-requires-in-Gathering c =
    record { dated = early_in c.args.stage (stage.Gathering c.in-Gathering.asking) c.in-Gathering.is c.requires.early }

pub returns-in-Reading : goal.returns-in-Reading
returns-in-Reading c =
    record {
      steps = λ s b same. from_stage s b c.args.stage stage.Reading (model.ended c.args.end) c.in-Reading.is
          (cut_reading s b c.args.end c.requires.fault);
      safe = λ tree told b safe. tt;
      ends = λ live. refl;
    }

pub returns-in-Refusing : goal.returns-in-Refusing
returns-in-Refusing c =
    record {
      steps = λ s b same. from_stage s b c.args.stage (stage.Refusing c.in-Refusing.field-0) (model.ended c.args.end) c.in-Refusing.is
          (cut_refusing s b _ c.args.end c.requires.fault);
      safe = λ tree told b safe. tt;
      ends = λ live. refl;
    }

pub returns-in-Walking : goal.returns-in-Walking
returns-in-Walking c =
    let early = early_in c.args.stage (stage.Walking c.in-Walking.exchange) c.in-Walking.is c.requires.early in
    record {
      steps = λ s b same. from_stage s b c.args.stage (stage.Walking c.in-Walking.exchange) (stage_of c.ended_after.result) c.in-Walking.is
          (cut_walking s b c.in-Walking.exchange c.work_of.result c.args.end (stage_of c.ended_after.result) c.ended_after.ensures.stage
          c.requires.fault early.1 (c.work_of.ensures.work s.tree same));
      safe = λ tree told b safe. open_leaves tree told b c.in-Walking.exchange c.work_of.result c.args.end (stage_of c.ended_after.result) c.ended_after.ensures.stage
          c.work_of.ensures.completed (safe_in tree told b c.args.stage (stage.Walking c.in-Walking.exchange) c.in-Walking.is safe).0;
      ends = λ live. ends_so c.work_of.result c.args.end (stage_of c.ended_after.result) c.ended_after.ensures.stage;
    }

pub returns-in-Gathering : goal.returns-in-Gathering
returns-in-Gathering c =
    record {
      steps = λ s b same. from_stage s b c.args.stage (stage.Gathering c.in-Gathering.asking) (stage_of c.ended_after-in-Gathering.result) c.in-Gathering.is
          (cut_gathering s b c.in-Gathering.asking.exchange c.in-Gathering.asking.gathering c.in-Gathering.asking.to_invite
          c.work_of-in-Gathering.result c.args.end (stage_of c.ended_after-in-Gathering.result) c.ended_after-in-Gathering.ensures.stage
          c.requires.fault (c.work_of-in-Gathering.ensures.work s.tree same));
      safe = λ tree told b safe. open_leaves tree told b c.in-Gathering.asking.exchange c.work_of-in-Gathering.result c.args.end
          (stage_of c.ended_after-in-Gathering.result) c.ended_after-in-Gathering.ensures.stage c.work_of-in-Gathering.ensures.completed
          (safe_in tree told b c.args.stage (stage.Gathering c.in-Gathering.asking) c.in-Gathering.is safe).open_so;
      ends = λ live. ends_so c.work_of-in-Gathering.result c.args.end (stage_of c.ended_after-in-Gathering.result) c.ended_after-in-Gathering.ensures.stage;
    }

pub returns-in-Answering : goal.returns-in-Answering
returns-in-Answering c =
    record {
      steps = λ s b same. from_stage s b c.args.stage (stage.Answering c.in-Answering.answering) (stage_of c.ended_after-in-Answering.result) c.in-Answering.is
          (cut_answering s b c.in-Answering.answering.closing c.in-Answering.answering.sending c.in-Answering.answering.closes
          c.in-Answering.answering.drain c.args.end (stage_of c.ended_after-in-Answering.result) c.ended_after-in-Answering.ensures.stage
          c.requires.fault);
      safe = λ tree told b safe. answer_leaves tree told b c.in-Answering.answering.closing c.in-Answering.answering.sending
          c.in-Answering.answering.drain c.args.end (stage_of c.ended_after-in-Answering.result) c.ended_after-in-Answering.ensures.stage
          (safe_in tree told b c.args.stage (stage.Answering c.in-Answering.answering) c.in-Answering.is safe);
      ends = λ live. ends_so c.in-Answering.answering.closing c.args.end (stage_of c.ended_after-in-Answering.result) c.ended_after-in-Answering.ensures.stage;
    }

pub returns-in-Closing : goal.returns-in-Closing
returns-in-Closing c =
    let after = stage_of (stage.Closing c.in-Closing.completing) in
    record {
      steps = λ s b same. from_stage s b c.args.stage (stage.Closing c.in-Closing.completing) after c.in-Closing.is (rests s b after);
      safe = λ tree told b safe. safe_in tree told b c.args.stage (stage.Closing c.in-Closing.completing) c.in-Closing.is safe;
      ends = λ live. absurd (live_in c.args.stage (stage.Closing c.in-Closing.completing) c.in-Closing.is live);
    }

pub returns : goal.returns
returns c =
    let after = model.ended c.in-Ended.before in
    record {
      steps = λ s b same. from_stage s b c.args.stage (stage.Ended c.in-Ended.before) after c.in-Ended.is (rests s b after);
      safe = λ tree told b safe. tt;
      ends = λ live. absurd (live_in c.args.stage (stage.Ended c.in-Ended.before) c.in-Ended.is live);
    }
