use Rattle.std.specs.Prelude.{None}
use Rattle.tow_states.specs.Known.{Setting}
use Rattle.tow_walks.specs.Folders.{faults_by, told_by}
use Rattle.tow_turns.specs.Data.{base_of, stage_of}
use Rattle.tow_turns.specs.Logging.{LeadsTelling}
use Rattle.tow_by_turns.specs.Hands.{KeepsHands, Serves, log_of}
use Rattle.tow_by_turns.specs.Turns.{KeepsHops, turn_left}
use Rattle.tow_by_turns.specs.declared.linking.TheConstants.{TURN_LEN}
use Rattle.tow_by_turns.proofs.Rounds.{Round}
use Rattle.tow_by_turns.proofs.turning.take_turn.Given as goal

-- Rounds have led so far, and what they work with was kept.
abbrev pub invariant-rounds : goal.invariant-rounds
invariant-rounds g l = record {
  hands : KeepsHands g.F.Folder.shows g.C.Clock.table g.G.LogSink.shows l.role l.initial.base.number l.initial.hands l.hands;
  sofar : Round l.initial.hands.site.now.tree (told_by g.F.Folder.shows l.initial.hands.folder)
      (faults_by g.F.Folder.shows l.initial.hands.folder l.initial.base.number)
      (faults_by g.F.Folder.shows l.hands.folder l.initial.base.number) (base_of g.L.Link.shows l.initial.base)
      (base_of g.L.Link.shows l.base) (stage_of l.initial.stage) (stage_of l.stage);
  hops : KeepsHops l.initial.hops l.hops None;
  steps : (s : Setting) → Serves g.F.Folder.shows g.C.Clock.table s l.initial.hands
      → LeadsTelling (log_of g.G.LogSink.shows l.initial.hands.log) (log_of g.G.LogSink.shows l.hands.log) s
      (base_of g.L.Link.shows l.initial.base) (base_of g.L.Link.shows l.base) (stage_of l.initial.stage) (stage_of l.stage);
}

-- what the turn may still do
abbrev pub decreases-rounds : goal.decreases-rounds
decreases-rounds g l = turn_left TURN_LEN l.moved (base_of g.L.Link.shows l.base) (stage_of l.stage)
