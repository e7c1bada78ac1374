use Rattle.std.proofs.Common.{length, Some}
use Rattle.tow_states.specs.Known.{Setting}
use Rattle.tow_states.specs.Leaving.{left_in}
use Rattle.tow_turns.specs.Data.{base_of, stage_of}
use Rattle.tow_turns.specs.Logging.{KeepsFaults, LeadsTelling}
use Rattle.tow_turns.specs.declared.stage.Stage.TheVariants as stage
use Rattle.tow_turns.proofs.Runs.{RanOn}
use Rattle.tow_turns.proofs.closing.close_on.Given as goal

-- Some listeners have run, and the log may have gained their lines.
abbrev pub invariant-listeners : goal.invariant-listeners
invariant-listeners g l = record {
  ran : RanOn (base_of g.L.Link.shows l.initial.base) (base_of g.L.Link.shows l.base) l.initial.completing l.completing;
  faults : KeepsFaults l.initial.base.number (Some (g.G.LogSink.shows l.initial.log)) (Some (g.G.LogSink.shows l.log));
  steps : (s : Setting) → LeadsTelling (Some (g.G.LogSink.shows l.initial.log)) (Some (g.G.LogSink.shows l.log)) s
      (base_of g.L.Link.shows l.initial.base) (base_of g.L.Link.shows l.base)
      (stage_of (stage.Closing l.initial.completing)) (stage_of (stage.Closing l.completing));
}

-- how many listeners are left
abbrev pub decreases-listeners : goal.decreases-listeners
decreases-listeners g l = length (left_in l.completing.owed l.completing.closing)
