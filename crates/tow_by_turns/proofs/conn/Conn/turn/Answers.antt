use Rattle.std.proofs.Common.{sym, subst}
use Rattle.tow_walks.specs.Folders.{faults_by, told_by}
use Rattle.tow_turns.specs.Data.{base_of, stage_of}
use Rattle.tow_turns.specs.Logging.{LeadsTelling}
use Rattle.tow_turns.specs.Safe.{IsSafe}
use Rattle.tow_turns.specs.declared.stage.Stage.{Stage}
use Rattle.tow_by_turns.specs.Hands.{log_of}
use Rattle.tow_by_turns.specs.Turns.{TurnFits}
use Rattle.tow_by_turns.proofs.conn.Conn.turn.Goals as goal

pub take_turn-stage-requires : goal.take_turn-stage-requires
take_turn-stage-requires g c = record {
  equipped = c.requires.equipped;
  scratch = c.requires.scratch;
  safe = subst (λ (x : Stage). IsSafe c.args.hands.now.site.now.tree (told_by g.F.Folder.shows c.args.hands.now.folder)
      (base_of g.L.Link.shows c.args.self.now.base) (stage_of x)) (sym c.replace-stage.ensures.value) c.requires.safe;
}

pub returns-clause-steps : goal.returns-clause-steps
returns-clause-steps g c =
    λ s serves. subst (λ (x : Stage). LeadsTelling (log_of g.G.LogSink.shows c.args.hands.now.log) (log_of g.G.LogSink.shows c.take_turn-stage.new.hands.log) s
    (base_of g.L.Link.shows c.args.self.now.base) (base_of g.L.Link.shows c.take_turn-stage.new.base) (stage_of x)
    (stage_of c.take_turn-stage.result.0)) c.replace-stage.ensures.value (c.take_turn-stage.ensures.steps s serves)

pub returns-clause-fits : goal.returns-clause-fits
returns-clause-fits g c =
    subst (λ (x : Stage). TurnFits c.args.role c.args.hands.now.site.now.tree (told_by g.F.Folder.shows c.args.hands.now.folder)
    (faults_by g.F.Folder.shows c.args.hands.now.folder c.args.self.now.base.number)
    (faults_by g.F.Folder.shows c.take_turn-stage.new.hands.folder c.args.self.now.base.number) (base_of g.L.Link.shows c.args.self.now.base)
    (base_of g.L.Link.shows c.take_turn-stage.new.base) (stage_of x) (stage_of c.take_turn-stage.result.0) c.take_turn-stage.result.1)
    c.replace-stage.ensures.value c.take_turn-stage.ensures.fits

pub returns-clause-hands : goal.returns-clause-hands
returns-clause-hands g c = c.take_turn-stage.ensures.hands

pub returns-clause-hops : goal.returns-clause-hops
returns-clause-hops g c = c.take_turn-stage.ensures.hops
