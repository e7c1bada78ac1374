use Rattle.std.proofs.Common.{List, ap, subst, ◌∙◌}
use Rattle.tow_model.specs.declared.statement.Statement.{Statement}
use Rattle.tow_program.specs.Programs.{program_of}
use Rattle.tow_site.specs.Compiled.{SiteData}
use Rattle.tow_walks.specs.Folders.{faults_by, told_by}
use Rattle.tow_turns.specs.Data.{base_of, stage_of}
use Rattle.tow_turns.proofs.Tellings.{faults_kept, tells_nothing, then_tells}
use Rattle.tow_by_turns.specs.Hands.{log_of}
use Rattle.tow_by_turns.specs.Needs.{IsNeed}
use Rattle.tow_by_turns.specs.declared.need.Need.{Need}
use Rattle.tow_by_turns.specs.declared.need.Need.TheVariants as need
use Rattle.tow_by_turns.proofs.Further.{folder_rises}
use Rattle.tow_by_turns.proofs.Links.{pooled}
use Rattle.tow_by_turns.proofs.Rounds.{hops_kept, idle_pools_not, steps_then}
use Rattle.tow_by_turns.proofs.Stages.{pooled_may_be_cut, reading_may_be_cut, writing_may_be_cut}
use Rattle.tow_by_turns.proofs.turning.round.Goals as goal

pub stop-requires : goal.stop-requires
stop-requires g c =
    let b = base_of g.L.Link.shows c.go-stage.new.base in
    let y = stage_of c.go-stage.result.0 in
    let tree = c.args.hands.now.site.now.tree in
    let told = told_by g.F.Folder.shows c.args.hands.now.folder in
    let goes = c.go-stage.ensures.goes in
    let needs : IsNeed c.args.role c.is_spent-spent.result b y (need.Stop c.in-Stop.turn) =
    subst (λ (v : Need). IsNeed c.args.role c.is_spent-spent.result b y v) c.in-Stop.is goes.needs in
    record {
      pool = λ is. pooled_may_be_cut tree told b y goes.safe (pooled c.args.role c.is_spent-spent.result b y c.in-Stop.turn is needs);
    }

pub read-requires : goal.read-requires
read-requires g c =
    let b = base_of g.L.Link.shows c.go-stage.new.base in
    let y = stage_of c.go-stage.result.0 in
    let tree = c.args.hands.now.site.now.tree in
    let told = told_by g.F.Folder.shows c.args.hands.now.folder in
    let goes = c.go-stage.ensures.goes in
    let needs : IsNeed c.args.role c.is_spent-spent.result b y need.Read =
    subst (λ (v : Need). IsNeed c.args.role c.is_spent-spent.result b y v) c.in-Read.is goes.needs in
    record { early = reading_may_be_cut tree told b y goes.safe needs.2; reads = needs.2 }

pub write-requires : goal.write-requires
write-requires g c =
    let b = base_of g.L.Link.shows c.go-stage.new.base in
    let y = stage_of c.go-stage.result.0 in
    let tree = c.args.hands.now.site.now.tree in
    let told = told_by g.F.Folder.shows c.args.hands.now.folder in
    let goes = c.go-stage.ensures.goes in
    let needs : IsNeed c.args.role c.is_spent-spent.result b y need.Write =
    subst (λ (v : Need). IsNeed c.args.role c.is_spent-spent.result b y v) c.in-Write.is goes.needs in
    record { early = writing_may_be_cut tree told b y goes.safe needs.3; live = needs.2; some = needs.3 }

pub returns-in-Stop : goal.returns-in-Stop
returns-in-Stop g c =
    let folders = g.F.Folder.shows in
    let logs = g.G.LogSink.shows in
    let shows = g.L.Link.shows in
    let role = c.args.role in
    let k = c.args.base.now.number in
    let first = c.args.hands.now in
    let last = c.go-stage.new.hands in
    let tree = first.site.now.tree in
    let told = told_by folders first.folder in
    let a = base_of shows c.args.base.now in
    let b = base_of shows c.go-stage.new.base in
    let x = stage_of c.args.stage in
    let y = stage_of c.go-stage.result.0 in
    let goes = c.go-stage.ensures.goes in
    let kept = c.go-stage.ensures.hands in
    let after = b in
    let z = stage_of c.stop.result.0 in
    let needs : IsNeed role c.is_spent-spent.result b y (need.Stop c.in-Stop.turn) =
    subst (λ (v : Need). IsNeed role c.is_spent-spent.result b y v) c.in-Stop.is goes.needs in
    let fits = c.stop.ensures.fits role c.is_spent-spent.result tree told b c.args.moved.now goes.safe needs in
    record {
      steps = λ s serves. then_tells k s (log_of logs first.log) (log_of logs last.log) (log_of logs last.log) a b after x y z goes.keeps.number
          (fits.number ∙ goes.keeps.number) kept.log (faults_kept k (log_of logs last.log)) (c.go-stage.ensures.steps s serves)
          (tells_nothing s (log_of logs last.log) b after y z (c.stop.ensures.steps s b
          (c.program-program.ensures.program ∙ ap (λ (d : SiteData). program_of d.tree) kept.site ∙ ap (λ (t : List Statement). program_of t) serves.tree)));
      fits = steps_then role c.is_spent-spent.result tree told (faults_by folders first.folder k) (faults_by folders last.folder k) a b after x y z
          c.go-stage.result.1 c.args.moved.now c.args.moved.now c.stop.result.1
          (folder_rises folders k first.folder last.folder kept.folder) goes fits;
      hands = kept;
      hops = c.stop.ensures.hops;
    }

pub returns-in-Read : goal.returns-in-Read
returns-in-Read g c =
    let folders = g.F.Folder.shows in
    let logs = g.G.LogSink.shows in
    let shows = g.L.Link.shows in
    let role = c.args.role in
    let k = c.args.base.now.number in
    let first = c.args.hands.now in
    let last = c.go-stage.new.hands in
    let tree = first.site.now.tree in
    let told = told_by folders first.folder in
    let a = base_of shows c.args.base.now in
    let b = base_of shows c.go-stage.new.base in
    let x = stage_of c.args.stage in
    let y = stage_of c.go-stage.result.0 in
    let goes = c.go-stage.ensures.goes in
    let kept = c.go-stage.ensures.hands in
    let after = base_of shows c.read.new.base in
    let z = stage_of c.read.result.0 in
    let needs : IsNeed role c.is_spent-spent.result b y need.Read =
    subst (λ (v : Need). IsNeed role c.is_spent-spent.result b y v) c.in-Read.is goes.needs in
    let fits = c.read.ensures.fits role c.is_spent-spent.result tree told goes.safe needs (c.is_spent-spent.ensures needs.1) in
    record {
      steps = λ s serves. then_tells k s (log_of logs first.log) (log_of logs last.log) (log_of logs last.log) a b after x y z goes.keeps.number
          (fits.number ∙ goes.keeps.number) kept.log (faults_kept k (log_of logs last.log)) (c.go-stage.ensures.steps s serves)
          (tells_nothing s (log_of logs last.log) b after y z (c.read.ensures.steps s
          (c.program-program.ensures.program ∙ ap (λ (d : SiteData). program_of d.tree) kept.site ∙ ap (λ (t : List Statement). program_of t) serves.tree)));
      fits = steps_then role c.is_spent-spent.result tree told (faults_by folders first.folder k) (faults_by folders last.folder k) a b after x y z
          c.go-stage.result.1 c.args.moved.now c.read.new.moved c.read.result.1
          (folder_rises folders k first.folder last.folder kept.folder) goes fits;
      hands = kept;
      hops = hops_kept c.args.hops.now c.read.result.1 (idle_pools_not c.read.result.1 c.read.ensures.idle);
    }

pub returns-in-Write : goal.returns-in-Write
returns-in-Write g c =
    let folders = g.F.Folder.shows in
    let logs = g.G.LogSink.shows in
    let shows = g.L.Link.shows in
    let role = c.args.role in
    let k = c.args.base.now.number in
    let first = c.args.hands.now in
    let last = c.go-stage.new.hands in
    let tree = first.site.now.tree in
    let told = told_by folders first.folder in
    let a = base_of shows c.args.base.now in
    let b = base_of shows c.go-stage.new.base in
    let x = stage_of c.args.stage in
    let y = stage_of c.go-stage.result.0 in
    let goes = c.go-stage.ensures.goes in
    let kept = c.go-stage.ensures.hands in
    let after = base_of shows c.write.new.base in
    let z = stage_of c.write.result.0 in
    let needs : IsNeed role c.is_spent-spent.result b y need.Write =
    subst (λ (v : Need). IsNeed role c.is_spent-spent.result b y v) c.in-Write.is goes.needs in
    let fits = c.write.ensures.fits role c.is_spent-spent.result tree told goes.safe needs (c.is_spent-spent.ensures needs.1) in
    record {
      steps = λ s serves. then_tells k s (log_of logs first.log) (log_of logs last.log) (log_of logs last.log) a b after x y z goes.keeps.number
          (fits.number ∙ goes.keeps.number) kept.log (faults_kept k (log_of logs last.log)) (c.go-stage.ensures.steps s serves)
          (tells_nothing s (log_of logs last.log) b after y z (c.write.ensures.steps s
          (c.program-program.ensures.program ∙ ap (λ (d : SiteData). program_of d.tree) kept.site ∙ ap (λ (t : List Statement). program_of t) serves.tree)));
      fits = steps_then role c.is_spent-spent.result tree told (faults_by folders first.folder k) (faults_by folders last.folder k) a b after x y z
          c.go-stage.result.1 c.args.moved.now c.write.new.moved c.write.result.1
          (folder_rises folders k first.folder last.folder kept.folder) goes fits;
      hands = kept;
      hops = hops_kept c.args.hops.now c.write.result.1 (idle_pools_not c.write.result.1 c.write.ensures.idle);
    }
