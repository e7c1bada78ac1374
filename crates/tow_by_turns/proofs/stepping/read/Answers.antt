use Rattle.std.proofs.Common.{List, length, ap, subst, ◌∙◌}
use Rattle.tow_model.specs.declared.account.Bound.{Bound}
use Rattle.tow_model.specs.declared.statement.Statement.{Statement}
use Rattle.tow_semantics.specs.Listeners.{bounds_of}
use Rattle.tow_walks.specs.Folders.{faults_by, told_by}
use Rattle.tow_turns.specs.Data.{base_of, stage_of}
use Rattle.tow_turns.specs.declared.stage.Stage.TheVariants as stage
use Rattle.tow_turns.proofs.Tellings.{tells_nothing}
use Rattle.tow_by_turns.specs.Hands.{IsClockIn, log_of}
use Rattle.tow_by_turns.proofs.stepping.read.Goals as goal

pub returns-clause-steps : goal.returns-clause-steps
returns-clause-steps g c =
    λ s serves. tells_nothing s (log_of g.G.LogSink.shows c.args.hands.now.log) (base_of g.L.Link.shows c.args.base.now)
    (base_of g.L.Link.shows c.read_on.new.base) (stage_of stage.Reading) (stage_of c.read_on.result.0)
    (c.read_on.ensures.steps s
    (c.len-limits.ensures ∙ ap (λ (l : List Bound). length l) c.limits.ensures ∙ ap (λ (t : List Statement). length (bounds_of t)) serves.tree)
    (subst (λ clock. IsClockIn g.C.Clock.table clock s.moments) c.in-Some.is serves.moments))

pub returns-clause-fits : goal.returns-clause-fits
returns-clause-fits g c =
    let faults = faults_by g.F.Folder.shows c.args.hands.now.folder c.args.base.now.number in
    c.read_on.ensures.fits c.args.role c.args.hands.now.site.now.tree (told_by g.F.Folder.shows c.args.hands.now.folder) faults faults
    (c.len-limits.ensures ∙ ap (λ (l : List Bound). length l) c.limits.ensures)
