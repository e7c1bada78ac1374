use Rattle.std.proofs.Common.{◌≡◌, ℕ, List, Option, sym, ap, subst, ◌∙◌}
use Rattle.tow_model.specs.declared.statement.Statement.{Statement}
use Rattle.tow_semantics.specs.Files.{Files}
use Rattle.tow_site.specs.Compiled.{pattern_texts}
use Rattle.tow_walks.specs.Folders.{faults_by, told_by}
use Rattle.tow_walks.proofs.Folders.{tells_same}
use Rattle.tow_turns.specs.Data.{base_of, stage_of}
use Rattle.tow_turns.specs.Nexts.{StepFits}
use Rattle.tow_turns.specs.Safe.{IsSafe}
use Rattle.tow_turns.proofs.Tellings.{stays, then_tells}
use Rattle.tow_by_turns.specs.Hands.{KeepsHands, log_of}
use Rattle.tow_by_turns.proofs.Further.{equipped_still, folder_rises, hands_further, hands_kept, serves_still}
use Rattle.tow_by_turns.proofs.Goings.{along_none, along_on, goes_after, goes_first, goes_on_after, refit}
use Rattle.tow_by_turns.proofs.going.go.Goals as goal

pub steps-init : goal.steps-init
steps-init g c =
    let folders = g.F.Folder.shows in
    let hands = c.args.hands.now in
    let b = base_of g.L.Link.shows c.args.base.now in
    record {
      hands = hands_kept folders g.C.Clock.table g.G.LogSink.shows c.args.role c.args.base.now.number hands;
      along = along_none hands.site.now.tree (told_by folders hands.folder) (faults_by folders hands.folder c.args.base.now.number) b
          (stage_of c.args.stage) c.requires.safe;
      steps = λ s serves. stays s (log_of g.G.LogSink.shows hands.log) b (stage_of c.args.stage);
    }

pub step-next-requires : goal.step-next-requires
step-next-requires g c =
    let folders = g.F.Folder.shows in
    let table = g.C.Clock.table in
    let logs = g.G.LogSink.shows in
    let role = c.args.role in
    let k = c.args.base.now.number in
    let i = c.steps.invariant in
    let first = c.args.hands.now in
    let mid = c.steps.hands in
    let a = base_of g.L.Link.shows c.args.base.now in
    let b = base_of g.L.Link.shows c.steps.base in
    let tree = first.site.now.tree in
    let told = told_by folders first.folder in
    record {
      equipped = equipped_still folders table logs role k first mid i.hands c.requires.equipped;
      scratch = i.hands.scratch ∙ c.requires.scratch ∙ sym (ap (λ x. pattern_texts x.tree) i.hands.site);
      safe = subst (λ (t : List Statement). IsSafe t (told_by folders mid.folder) b (stage_of c.steps.stage)) (sym (ap (λ x. x.tree) i.hands.site))
          (subst (λ (d : Option Files). IsSafe tree d b (stage_of c.steps.stage))
          (sym (tells_same folders k first.folder mid.folder i.hands.folder)) i.along.safe);
      written = c.in_default.ensures.0;
    }

pub steps-preserved : goal.steps-preserved
steps-preserved g c =
    let folders = g.F.Folder.shows in
    let table = g.C.Clock.table in
    let logs = g.G.LogSink.shows in
    let role = c.args.role in
    let k = c.args.base.now.number in
    let i = c.steps.invariant in
    let first = c.args.hands.now in
    let mid = c.steps.hands in
    let a = base_of g.L.Link.shows c.args.base.now in
    let b = base_of g.L.Link.shows c.steps.base in
    let tree = first.site.now.tree in
    let told = told_by folders first.folder in
    let last = c.step-next.new.hands in
    let after = base_of g.L.Link.shows c.step-next.new.base in
    let y = stage_of c.steps.stage in
    let z = stage_of c.step-next.result.0 in
    let follows = c.step-next.result.1 in
    let at_b : c.steps.base.number ≡ k = i.along.keeps.number in
    let kept : KeepsHands folders table logs role k mid last =
    subst (λ (n : ℕ). KeepsHands folders table logs role n mid last) at_b c.step-next.ensures.hands in
    let fits : StepFits role tree told (faults_by folders mid.folder k) (faults_by folders last.folder k) b after y z follows =
    refit role mid.site.now.tree tree (told_by folders mid.folder) told (faults_by folders mid.folder) (faults_by folders last.folder) c.steps.base.number k
    b after y z follows (ap (λ x. x.tree) i.hands.site) (tells_same folders k first.folder mid.folder i.hands.folder) at_b c.step-next.ensures.fits in
    let one = folder_rises folders k first.folder mid.folder i.hands.folder in
    let two = folder_rises folders k mid.folder last.folder kept.folder in
    record {
      hands = hands_further folders table logs role k first mid last i.hands kept;
      along = along_on role tree told (faults_by folders first.folder k) (faults_by folders mid.folder k) (faults_by folders last.folder k) a b after
          (stage_of c.args.stage) y z follows one two i.along fits;
      steps = λ s serves. then_tells k s (log_of logs first.log) (log_of logs mid.log) (log_of logs last.log) a b after (stage_of c.args.stage) y z at_b
          (fits.keeps.number ∙ at_b) i.hands.log kept.log (i.steps s serves)
          (c.step-next.ensures.steps s (serves_still folders table logs role k s first mid i.hands serves));
    }

pub steps-smaller : goal.steps-smaller
steps-smaller g c =
    c.step-next.ensures.fits.nearer (goes_on_after c.args.role c.step-next.result.1 (sym c.need_of.ensures ∙ c.in_default-need_of.is))

pub returns-in-Some : goal.returns-in-Some
returns-in-Some g c =
    let folders = g.F.Folder.shows in
    let table = g.C.Clock.table in
    let logs = g.G.LogSink.shows in
    let role = c.args.role in
    let k = c.args.base.now.number in
    let i = c.steps.invariant in
    let first = c.args.hands.now in
    let mid = c.steps.hands in
    let a = base_of g.L.Link.shows c.args.base.now in
    let b = base_of g.L.Link.shows c.steps.base in
    let tree = first.site.now.tree in
    let told = told_by folders first.folder in
    record {
      steps = i.steps;
      goes = goes_first role c.args.spent tree told (faults_by folders first.folder k) (faults_by folders mid.folder k) a b
          (stage_of c.args.stage) (stage_of c.steps.stage) c.in-Some.need i.along c.in-Some.ensures;
      hands = i.hands;
    }

pub returns-in-Some-need_of : goal.returns-in-Some-need_of
returns-in-Some-need_of g c =
    let folders = g.F.Folder.shows in
    let table = g.C.Clock.table in
    let logs = g.G.LogSink.shows in
    let role = c.args.role in
    let k = c.args.base.now.number in
    let i = c.steps.invariant in
    let first = c.args.hands.now in
    let mid = c.steps.hands in
    let a = base_of g.L.Link.shows c.args.base.now in
    let b = base_of g.L.Link.shows c.steps.base in
    let tree = first.site.now.tree in
    let told = told_by folders first.folder in
    let last = c.step-next.new.hands in
    let after = base_of g.L.Link.shows c.step-next.new.base in
    let y = stage_of c.steps.stage in
    let z = stage_of c.step-next.result.0 in
    let follows = c.step-next.result.1 in
    let at_b : c.steps.base.number ≡ k = i.along.keeps.number in
    let kept : KeepsHands folders table logs role k mid last =
    subst (λ (n : ℕ). KeepsHands folders table logs role n mid last) at_b c.step-next.ensures.hands in
    let fits : StepFits role tree told (faults_by folders mid.folder k) (faults_by folders last.folder k) b after y z follows =
    refit role mid.site.now.tree tree (told_by folders mid.folder) told (faults_by folders mid.folder) (faults_by folders last.folder) c.steps.base.number k
    b after y z follows (ap (λ x. x.tree) i.hands.site) (tells_same folders k first.folder mid.folder i.hands.folder) at_b c.step-next.ensures.fits in
    let one = folder_rises folders k first.folder mid.folder i.hands.folder in
    let two = folder_rises folders k mid.folder last.folder kept.folder in
    record {
      steps = λ s serves. then_tells k s (log_of logs first.log) (log_of logs mid.log) (log_of logs last.log) a b after (stage_of c.args.stage) y z at_b
          (fits.keeps.number ∙ at_b) i.hands.log kept.log (i.steps s serves)
          (c.step-next.ensures.steps s (serves_still folders table logs role k s first mid i.hands serves));
      goes = goes_after role c.args.spent tree told (faults_by folders first.folder k) (faults_by folders mid.folder k)
          (faults_by folders last.folder k) a b after (stage_of c.args.stage) y z follows c.in-Some-need_of.need one two i.along
          c.in_default.ensures fits (sym c.need_of.ensures ∙ c.in-Some-need_of.is);
      hands = hands_further folders table logs role k first mid last i.hands kept;
    }
