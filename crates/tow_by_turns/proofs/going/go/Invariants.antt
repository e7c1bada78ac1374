use Rattle.tow_states.specs.Known.{Setting}
use Rattle.tow_walks.specs.Folders.{faults_by, told_by}
use Rattle.tow_turns.specs.Data.{base_of, stage_of}
use Rattle.tow_turns.specs.Logging.{LeadsTelling}
use Rattle.tow_by_turns.specs.Hands.{KeepsHands, Serves, log_of}
use Rattle.tow_turns.specs.Nexts.{weight}
use Rattle.tow_by_turns.proofs.Goings.{Along}
use Rattle.tow_by_turns.proofs.going.go.Given as goal

-- Steps have led so far, and the hands were kept.
abbrev pub invariant-steps : goal.invariant-steps
invariant-steps g l = record {
  hands : KeepsHands g.F.Folder.shows g.C.Clock.table g.G.LogSink.shows l.role l.initial.base.number l.initial.hands l.hands;
  along : Along l.initial.hands.site.now.tree (told_by g.F.Folder.shows l.initial.hands.folder)
      (faults_by g.F.Folder.shows l.initial.hands.folder l.initial.base.number)
      (faults_by g.F.Folder.shows l.hands.folder l.initial.base.number) (base_of g.L.Link.shows l.initial.base)
      (base_of g.L.Link.shows l.base) (stage_of l.initial.stage) (stage_of l.stage);
  steps : (s : Setting) → Serves g.F.Folder.shows g.C.Clock.table s l.initial.hands
      → LeadsTelling (log_of g.G.LogSink.shows l.initial.hands.log) (log_of g.G.LogSink.shows l.hands.log) s
      (base_of g.L.Link.shows l.initial.base) (base_of g.L.Link.shows l.base) (stage_of l.initial.stage) (stage_of l.stage);
}

-- what is in the pipe of input, and how far the exchange is from its end
abbrev pub decreases-steps : goal.decreases-steps
decreases-steps g l = weight (base_of g.L.Link.shows l.base) (stage_of l.stage)
