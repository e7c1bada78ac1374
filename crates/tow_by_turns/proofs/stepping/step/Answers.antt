use Rattle.std.proofs.Common.{List, sym, ap, subst, ◌∙◌}
use Rattle.tow_model.specs.declared.statement.Statement.{Statement}
use Rattle.tow_program.specs.Programs.{program_of}
use Rattle.tow_walks.specs.Folders.{faults_by, told_by}
use Rattle.tow_turns.specs.Data.{base_of, stage_of}
use Rattle.tow_turns.specs.Logging.{LeadsTelling}
use Rattle.tow_turns.specs.Nexts.{StepFits}
use Rattle.tow_turns.specs.Safe.{IsSafe}
use Rattle.tow_turns.specs.declared.stage.Stage.{Stage}
use Rattle.tow_turns.specs.declared.stage.Stage.TheVariants as stage
use Rattle.tow_turns.proofs.Tellings.{stays, tells_nothing}
use Rattle.tow_by_turns.specs.Hands.{log_of}
use Rattle.tow_by_turns.proofs.Among.{patterns_among}
use Rattle.tow_by_turns.proofs.stepping.step.Goals as goal

pub walk_on-requires-clause-among : goal.walk_on-requires-clause-among
walk_on-requires-clause-among g c =
    patterns_among c.program.result.now c.args.hands.now.site.now.tree c.args.hands.now.scratch c.program.ensures.program
    c.program.ensures.numbered c.requires.scratch

pub returns-in-Reading-clause-steps : goal.returns-in-Reading-clause-steps
returns-in-Reading-clause-steps g c =
    let log = log_of g.G.LogSink.shows c.args.hands.now.log in
    let b = base_of g.L.Link.shows c.args.base.now in
    λ s serves. subst (λ (x : Stage). LeadsTelling log (log_of g.G.LogSink.shows c.read.new.hands.log) s b (base_of g.L.Link.shows c.read.new.base) (stage_of x) (stage_of c.read.result.0)) (sym c.in-Reading.is)
    (c.read.ensures.steps s serves)

pub returns-in-Refusing-clause-steps : goal.returns-in-Refusing-clause-steps
returns-in-Refusing-clause-steps g c =
    let log = log_of g.G.LogSink.shows c.args.hands.now.log in
    let b = base_of g.L.Link.shows c.args.base.now in
    λ s serves. subst (λ (x : Stage). LeadsTelling log (log) s b (base_of g.L.Link.shows c.refuse_on.new.base) (stage_of x) (stage_of c.refuse_on.result.0)) (sym c.in-Refusing.is)
    (tells_nothing s log b (base_of g.L.Link.shows c.refuse_on.new.base) (stage_of (stage.Refusing c.in-Refusing.refusal))
    (stage_of c.refuse_on.result.0) (c.refuse_on.ensures.steps s))

pub returns-in-Refusing-clause-fits : goal.returns-in-Refusing-clause-fits
returns-in-Refusing-clause-fits g c =
    let b = base_of g.L.Link.shows c.args.base.now in
    let tree = c.args.hands.now.site.now.tree in
    let told = told_by g.F.Folder.shows c.args.hands.now.folder in
    let faults = faults_by g.F.Folder.shows c.args.hands.now.folder c.args.base.now.number in
    let faults_after = faults_by g.F.Folder.shows c.args.hands.now.folder c.args.base.now.number in
    subst (λ (x : Stage). StepFits c.args.role tree told faults faults_after b (base_of g.L.Link.shows c.refuse_on.new.base) (stage_of x) (stage_of c.refuse_on.result.0) c.refuse_on.result.1) (sym c.in-Refusing.is)
    (c.refuse_on.ensures.fits c.args.role tree told faults faults_after)

pub returns-in-Walking-clause-steps : goal.returns-in-Walking-clause-steps
returns-in-Walking-clause-steps g c =
    let log = log_of g.G.LogSink.shows c.args.hands.now.log in
    let b = base_of g.L.Link.shows c.args.base.now in
    λ s serves. subst (λ (x : Stage). LeadsTelling log (log) s b (b) (stage_of x) (stage_of c.walk_on.result.0)) (sym c.in-Walking.is)
    (tells_nothing s log b b (stage_of (stage.Walking c.in-Walking.exchange)) (stage_of c.walk_on.result.0)
    (c.walk_on.ensures.steps s b (c.program.ensures.program ∙ ap (λ (t : List Statement). program_of t) serves.tree) serves.files))

pub returns-in-Walking-clause-fits : goal.returns-in-Walking-clause-fits
returns-in-Walking-clause-fits g c =
    let b = base_of g.L.Link.shows c.args.base.now in
    let tree = c.args.hands.now.site.now.tree in
    let told = told_by g.F.Folder.shows c.args.hands.now.folder in
    let faults = faults_by g.F.Folder.shows c.args.hands.now.folder c.args.base.now.number in
    let faults_after = faults_by g.F.Folder.shows c.walk_on.new.folder c.args.base.now.number in
    subst (λ (x : Stage). StepFits c.args.role tree told faults faults_after b (b) (stage_of x) (stage_of c.walk_on.result.0) c.walk_on.result.1) (sym c.in-Walking.is)
    (c.walk_on.ensures.fits tree b c.program.ensures.program (subst (λ (x : Stage). IsSafe tree told b (stage_of x)) c.in-Walking.is c.requires.safe))

pub returns-in-Gathering-clause-steps : goal.returns-in-Gathering-clause-steps
returns-in-Gathering-clause-steps g c =
    let log = log_of g.G.LogSink.shows c.args.hands.now.log in
    let b = base_of g.L.Link.shows c.args.base.now in
    λ s serves. subst (λ (x : Stage). LeadsTelling log (log) s b (base_of g.L.Link.shows c.gather_on.new.base) (stage_of x) (stage_of c.gather_on.result.0)) (sym c.in-Gathering.is)
    (tells_nothing s log b (base_of g.L.Link.shows c.gather_on.new.base) (stage_of (stage.Gathering c.in-Gathering.asking))
    (stage_of c.gather_on.result.0)
    (c.gather_on.ensures.steps s (c.program-in-Gathering.ensures.program ∙ ap (λ (t : List Statement). program_of t) serves.tree)))

pub returns-in-Gathering-clause-fits : goal.returns-in-Gathering-clause-fits
returns-in-Gathering-clause-fits g c =
    let b = base_of g.L.Link.shows c.args.base.now in
    let tree = c.args.hands.now.site.now.tree in
    let told = told_by g.F.Folder.shows c.args.hands.now.folder in
    let faults = faults_by g.F.Folder.shows c.args.hands.now.folder c.args.base.now.number in
    let faults_after = faults_by g.F.Folder.shows c.args.hands.now.folder c.args.base.now.number in
    subst (λ (x : Stage). StepFits c.args.role tree told faults faults_after b (base_of g.L.Link.shows c.gather_on.new.base) (stage_of x) (stage_of c.gather_on.result.0) c.gather_on.result.1) (sym c.in-Gathering.is)
    (c.gather_on.ensures.fits c.args.role tree told faults faults_after (subst (λ (x : Stage). IsSafe tree told b (stage_of x)) c.in-Gathering.is c.requires.safe))

pub returns-in-Answering-clause-steps : goal.returns-in-Answering-clause-steps
returns-in-Answering-clause-steps g c =
    let log = log_of g.G.LogSink.shows c.args.hands.now.log in
    let b = base_of g.L.Link.shows c.args.base.now in
    λ s serves. subst (λ (x : Stage). LeadsTelling log (log) s b (base_of g.L.Link.shows c.answer_on.new.base) (stage_of x) (stage_of c.answer_on.result.0)) (sym c.in-Answering.is)
    (tells_nothing s log b (base_of g.L.Link.shows c.answer_on.new.base) (stage_of (stage.Answering c.in-Answering.answering))
    (stage_of c.answer_on.result.0) (c.answer_on.ensures.steps s serves.files))

pub returns-in-Answering-clause-fits : goal.returns-in-Answering-clause-fits
returns-in-Answering-clause-fits g c =
    let b = base_of g.L.Link.shows c.args.base.now in
    let tree = c.args.hands.now.site.now.tree in
    let told = told_by g.F.Folder.shows c.args.hands.now.folder in
    let faults = faults_by g.F.Folder.shows c.args.hands.now.folder c.args.base.now.number in
    let faults_after = faults_by g.F.Folder.shows c.answer_on.new.folder c.args.base.now.number in
    subst (λ (x : Stage). StepFits c.args.role tree told faults faults_after b (base_of g.L.Link.shows c.answer_on.new.base) (stage_of x) (stage_of c.answer_on.result.0) c.answer_on.result.1) (sym c.in-Answering.is)
    (c.answer_on.ensures.fits tree)

pub returns-in-Closing-clause-steps : goal.returns-in-Closing-clause-steps
returns-in-Closing-clause-steps g c =
    let log = log_of g.G.LogSink.shows c.args.hands.now.log in
    let b = base_of g.L.Link.shows c.args.base.now in
    λ s serves. subst (λ (x : Stage). LeadsTelling log (log_of g.G.LogSink.shows c.close.new.hands.log) s b (base_of g.L.Link.shows c.close.new.base) (stage_of x) (stage_of c.close.result.0)) (sym c.in-Closing.is)
    (c.close.ensures.steps s serves)

pub returns-in-Ended-clause-steps : goal.returns-in-Ended-clause-steps
returns-in-Ended-clause-steps g c =
    let log = log_of g.G.LogSink.shows c.args.hands.now.log in
    let b = base_of g.L.Link.shows c.args.base.now in
    λ s serves. subst (λ (x : Stage). LeadsTelling log log s b b (stage_of x) (stage_of (stage.Ended c.in-Ended.end))) (sym c.in-Ended.is)
    (stays s log b (stage_of (stage.Ended c.in-Ended.end)))
