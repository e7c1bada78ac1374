use Rattle.std.proofs.Common.{◌≡◌, ℕ, List, Option, None, Some, sym, ap, subst, ◌∙◌}
use Rattle.tow_model.specs.declared.statement.Statement.{Statement}
use Rattle.tow_semantics.specs.Files.{Files}
use Rattle.tow_site.specs.Compiled.{pattern_texts}
use Rattle.tow_walks.specs.Folders.{faults_by, told_by}
use Rattle.tow_walks.proofs.Folders.{tells_same}
use Rattle.tow_turns.specs.Data.{base_of, stage_of}
use Rattle.tow_turns.specs.Safe.{IsSafe}
use Rattle.tow_turns.specs.declared.turn.Turn.{Turn}
use Rattle.tow_turns.proofs.Tellings.{stays, then_tells}
use Rattle.tow_by_turns.specs.Hands.{KeepsHands, log_of}
use Rattle.tow_by_turns.specs.Turns.{KeepsHops, RoundFits}
use Rattle.tow_by_turns.proofs.Further.{equipped_still, folder_rises, hands_further, hands_kept, serves_still}
use Rattle.tow_by_turns.proofs.Rounds.{hops_kept, hops_on, reround, round_none, round_on, turn_after}
use Rattle.tow_by_turns.proofs.turning.take_turn.Goals as goal

pub rounds-init : goal.rounds-init
rounds-init g c =
    let folders = g.F.Folder.shows in
    let hands = c.args.hands.now in
    let b = base_of g.L.Link.shows c.args.base.now in
    record {
      hands = hands_kept folders g.C.Clock.table g.G.LogSink.shows c.args.role c.args.base.now.number hands;
      sofar = round_none hands.site.now.tree (told_by folders hands.folder) (faults_by folders hands.folder c.args.base.now.number) b
          (stage_of c.args.stage) c.requires.safe;
      hops = hops_kept c.args.hops.now None (λ is. cc);
      steps = λ s serves. stays s (log_of g.G.LogSink.shows hands.log) b (stage_of c.args.stage);
    }

pub round-next-requires : goal.round-next-requires
round-next-requires g c =
    let folders = g.F.Folder.shows in
    let table = g.C.Clock.table in
    let logs = g.G.LogSink.shows in
    let role = c.args.role in
    let k = c.args.base.now.number in
    let i = c.rounds.invariant in
    let first = c.args.hands.now in
    let mid = c.rounds.hands in
    let a = base_of g.L.Link.shows c.args.base.now in
    let b = base_of g.L.Link.shows c.rounds.base in
    let tree = first.site.now.tree in
    let told = told_by folders first.folder in
    record {
      equipped = equipped_still folders table logs role k first mid i.hands c.requires.equipped;
      scratch = i.hands.scratch ∙ c.requires.scratch ∙ sym (ap (λ x. pattern_texts x.tree) i.hands.site);
      safe = subst (λ (t : List Statement). IsSafe t (told_by folders mid.folder) b (stage_of c.rounds.stage)) (sym (ap (λ x. x.tree) i.hands.site))
          (subst (λ (d : Option Files). IsSafe tree d b (stage_of c.rounds.stage))
          (sym (tells_same folders k first.folder mid.folder i.hands.folder)) i.sofar.safe);
    }

pub rounds-preserved : goal.rounds-preserved
rounds-preserved g c =
    let folders = g.F.Folder.shows in
    let table = g.C.Clock.table in
    let logs = g.G.LogSink.shows in
    let role = c.args.role in
    let k = c.args.base.now.number in
    let i = c.rounds.invariant in
    let first = c.args.hands.now in
    let mid = c.rounds.hands in
    let a = base_of g.L.Link.shows c.args.base.now in
    let b = base_of g.L.Link.shows c.rounds.base in
    let tree = first.site.now.tree in
    let told = told_by folders first.folder in
    let last = c.round-next.new.hands in
    let after = base_of g.L.Link.shows c.round-next.new.base in
    let y = stage_of c.rounds.stage in
    let z = stage_of c.round-next.result.0 in
    let answer = c.round-next.result.1 in
    let at_b : c.rounds.base.number ≡ k = i.sofar.number in
    let kept : KeepsHands folders table logs role k mid last =
    subst (λ (n : ℕ). KeepsHands folders table logs role n mid last) at_b c.round-next.ensures.hands in
    let fits : RoundFits role tree told (faults_by folders mid.folder k) (faults_by folders last.folder k) b after y z c.rounds.moved
    c.round-next.new.moved answer =
    reround role mid.site.now.tree tree (told_by folders mid.folder) told (faults_by folders mid.folder) (faults_by folders last.folder)
    c.rounds.base.number k b after y z c.rounds.moved c.round-next.new.moved answer (ap (λ x. x.tree) i.hands.site)
    (tells_same folders k first.folder mid.folder i.hands.folder) at_b c.round-next.ensures.fits in
    let one = folder_rises folders k first.folder mid.folder i.hands.folder in
    let two = folder_rises folders k mid.folder last.folder kept.folder in
    record {
      hands = hands_further folders table logs role k first mid last i.hands kept;
      sofar = round_on role tree told (faults_by folders first.folder k) (faults_by folders mid.folder k) (faults_by folders last.folder k) a b after
          (stage_of c.args.stage) y z c.rounds.moved c.round-next.new.moved answer one two i.sofar fits;
      hops = hops_on c.args.hops.now c.rounds.hops c.round-next.new.hops None None i.hops
          (subst (λ (o : Option Turn). KeepsHops c.rounds.hops c.round-next.new.hops o) c.in_default.is c.round-next.ensures.hops);
      steps = λ s serves. then_tells k s (log_of logs first.log) (log_of logs mid.log) (log_of logs last.log) a b after (stage_of c.args.stage) y z at_b
          (fits.number ∙ at_b) i.hands.log kept.log (i.steps s serves)
          (c.round-next.ensures.steps s (serves_still folders table logs role k s first mid i.hands serves));
    }

pub rounds-smaller : goal.rounds-smaller
rounds-smaller g c = c.round-next.ensures.fits.nearer c.in_default.is

pub returns-in-Some : goal.returns-in-Some
returns-in-Some g c =
    let folders = g.F.Folder.shows in
    let table = g.C.Clock.table in
    let logs = g.G.LogSink.shows in
    let role = c.args.role in
    let k = c.args.base.now.number in
    let i = c.rounds.invariant in
    let first = c.args.hands.now in
    let mid = c.rounds.hands in
    let a = base_of g.L.Link.shows c.args.base.now in
    let b = base_of g.L.Link.shows c.rounds.base in
    let tree = first.site.now.tree in
    let told = told_by folders first.folder in
    let last = c.round-next.new.hands in
    let after = base_of g.L.Link.shows c.round-next.new.base in
    let y = stage_of c.rounds.stage in
    let z = stage_of c.round-next.result.0 in
    let answer = c.round-next.result.1 in
    let at_b : c.rounds.base.number ≡ k = i.sofar.number in
    let kept : KeepsHands folders table logs role k mid last =
    subst (λ (n : ℕ). KeepsHands folders table logs role n mid last) at_b c.round-next.ensures.hands in
    let fits : RoundFits role tree told (faults_by folders mid.folder k) (faults_by folders last.folder k) b after y z c.rounds.moved
    c.round-next.new.moved answer =
    reround role mid.site.now.tree tree (told_by folders mid.folder) told (faults_by folders mid.folder) (faults_by folders last.folder)
    c.rounds.base.number k b after y z c.rounds.moved c.round-next.new.moved answer (ap (λ x. x.tree) i.hands.site)
    (tells_same folders k first.folder mid.folder i.hands.folder) at_b c.round-next.ensures.fits in
    let one = folder_rises folders k first.folder mid.folder i.hands.folder in
    let two = folder_rises folders k mid.folder last.folder kept.folder in
    record {
      steps = λ s serves. then_tells k s (log_of logs first.log) (log_of logs mid.log) (log_of logs last.log) a b after (stage_of c.args.stage) y z at_b
          (fits.number ∙ at_b) i.hands.log kept.log (i.steps s serves)
          (c.round-next.ensures.steps s (serves_still folders table logs role k s first mid i.hands serves));
      fits = turn_after role tree told (faults_by folders first.folder k) (faults_by folders mid.folder k) (faults_by folders last.folder k) a b after
          (stage_of c.args.stage) y z c.rounds.moved c.round-next.new.moved answer c.in-Some.turn c.in-Some.is one two i.sofar fits;
      hands = hands_further folders table logs role k first mid last i.hands kept;
      hops = hops_on c.args.hops.now c.rounds.hops c.round-next.new.hops None (Some c.in-Some.turn) i.hops
          (subst (λ (o : Option Turn). KeepsHops c.rounds.hops c.round-next.new.hops o) c.in-Some.is c.round-next.ensures.hops);
    }
