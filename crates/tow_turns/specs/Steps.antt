-- What a step of a connection leads to.
use Rattle.std.specs.Prelude.{◌≡◌, Bool, List}
use Rattle.tow_model.specs.declared.account.Line.{Line}
use Rattle.tow_progress.specs.Progress.{Progress, Origin}
use Rattle.tow_progress.specs.Accounts.{Tally}
use Rattle.tow_states.specs.Known.{Setting}
use Rattle.tow_stages.specs.Stages.{Base, Stage}
use Rattle.tow_stages.specs.Holding.{Holds}

-- Where it has come to after a step that tells its log nothing.
pub record Comes (failed : Bool) (s : Setting) (o : Origin) (b : Base) (stage : Stage) (lines : List Line) : Type 0 where
  pub progress : Progress
  pub tally : Tally
  pub holds : Holds failed s o b stage progress tally
  pub same_lines : tally.lines ≡ lines

-- From each place to which it may have come, the step leads to another one.
abbrev pub Leads : Setting → Base → Base → Stage → Stage → Type 0
Leads s old new before after =
    (failed : Bool) (o : Origin) (c : Progress) (t : Tally) → Holds failed s o old before c t → Comes failed s o new after t.lines
