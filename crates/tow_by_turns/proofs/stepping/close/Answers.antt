use Rattle.std.proofs.Common.{Some, option_map, sym, subst}
use Rattle.tow_walks.specs.Folders.{faults_by, told_by}
use Rattle.tow_turns.specs.Data.{base_of, stage_of}
use Rattle.tow_turns.specs.Logging.{LeadsTelling}
use Rattle.tow_turns.specs.declared.stage.Stage.TheVariants as stage
use Rattle.tow_turns.proofs.Tellings.{stays}
use Rattle.tow_by_turns.specs.Hands.{log_of}
use Rattle.tow_by_turns.proofs.stepping.close.Goals as goal

pub returns-then-not-is_loop-clause-steps : goal.returns-then-not-is_loop-clause-steps
returns-then-not-is_loop-clause-steps g c =
    λ s serves. stays s (log_of g.G.LogSink.shows c.args.hands.now.log) (base_of g.L.Link.shows c.args.base.now)
    (stage_of (stage.Closing c.args.completing))

pub returns-clause-steps : goal.returns-clause-steps
returns-clause-steps g c =
    λ s serves. subst (λ log. LeadsTelling (option_map g.G.LogSink.shows log) (Some (g.G.LogSink.shows c.close_on.new.log)) s
    (base_of g.L.Link.shows c.args.base.now) (base_of g.L.Link.shows c.close_on.new.base) (stage_of (stage.Closing c.args.completing))
    (stage_of c.close_on.result.0)) (sym c.in-Some.is) (c.close_on.ensures.steps s)

pub returns-clause-fits : goal.returns-clause-fits
returns-clause-fits g c =
    let faults = faults_by g.F.Folder.shows c.args.hands.now.folder c.args.base.now.number in
    c.close_on.ensures.fits c.args.role c.args.hands.now.site.now.tree (told_by g.F.Folder.shows c.args.hands.now.folder) faults faults
    (c.is_loop.ensures.0 c.if-not-is_loop.false) c.requires.safe
