use Rattle.std.proofs.Common.{◌*◌, ◌+◌, length, sym, ap, subst, ◌∙◌}
use Rattle.tow_model.specs.declared.account.End.TheVariants.{FolderFault}
use Rattle.tow_sending.specs.declared.sent.Sent.{Sent}
use Rattle.tow_walks.specs.Folders.{faults_by, told_by}
use Rattle.tow_stages.specs.Stages as model
use Rattle.tow_turns.specs.Data.{base_of, stage_of}
use Rattle.tow_turns.specs.Puttings.{HasPut}
use Rattle.tow_turns.specs.declared.stage.Stage.TheVariants as stage
use Rattle.tow_turns.proofs.Cuts.{cut_answering}
use Rattle.tow_turns.proofs.Puts.{fault_fits, output_keeps, pool_fits, put_fits, whole_fits}
use Rattle.tow_turns.proofs.Tellings.{then_on}
use Rattle.tow_turns.proofs.answering.answer_on.Goals as goal

pub returns-in-Piece : goal.returns-in-Piece
returns-in-Piece g c =
    let shows = g.L.Link.shows in
    let files = g.F.Folder.shows in
    let a = c.args.answering in
    let x = c.put_some-answering.result.0 in
    let b = base_of shows c.args.base.now in
    let mid = base_of shows c.put_some-answering.new.base in
    let keeps = output_keeps b mid c.put_some-answering.new.base.port.output c.put_some-answering.ensures.base in
    record {
      steps = c.put_some-answering.ensures.steps;
      fits = λ tree. put_fits c.args.role tree (told_by files c.args.folder.now) (faults_by files c.args.folder.now c.args.base.now.number)
          (faults_by files c.put_some-answering.new.folder c.args.base.now.number) b mid a.closing a.sending a.closes a.drain x.closing
          x.sending x.closes x.drain keeps c.put_some-answering.ensures.puttable
          c.put_some-answering.result.1 c.put_some-answering.ensures.put c.put_some-answering.new.base.port.output_len c.in-Piece.is;
      folder = c.put_some-answering.ensures.folder;
      idle = c.put_some-answering.ensures.idle;
    }

pub returns-in-NeedWorker : goal.returns-in-NeedWorker
returns-in-NeedWorker g c =
    let shows = g.L.Link.shows in
    let files = g.F.Folder.shows in
    let a = c.args.answering in
    let x = c.put_some-answering.result.0 in
    let b = base_of shows c.args.base.now in
    let mid = base_of shows c.put_some-answering.new.base in
    let keeps = output_keeps b mid c.put_some-answering.new.base.port.output c.put_some-answering.ensures.base in
    record {
      steps = c.put_some-answering.ensures.steps;
      fits = λ tree. pool_fits c.args.role tree (told_by files c.args.folder.now) (faults_by files c.args.folder.now c.args.base.now.number)
          (faults_by files c.put_some-answering.new.folder c.args.base.now.number) b mid a.closing a.sending a.closes a.drain x.closing
          x.sending x.closes x.drain keeps c.put_some-answering.ensures.puttable
          (subst (λ (t : Sent). HasPut c.args.role t x.sending c.put_some-answering.new.base.port.output) c.in-NeedWorker.is
          c.put_some-answering.ensures.put);
      folder = c.put_some-answering.ensures.folder;
      idle = c.put_some-answering.ensures.idle;
    }

pub returns-in-FolderFault : goal.returns-in-FolderFault
returns-in-FolderFault g c =
    let shows = g.L.Link.shows in
    let files = g.F.Folder.shows in
    let a = c.args.answering in
    let x = c.put_some-answering.result.0 in
    let b = base_of shows c.args.base.now in
    let mid = base_of shows c.put_some-answering.new.base in
    let keeps = output_keeps b mid c.put_some-answering.new.base.port.output c.put_some-answering.ensures.base in
    record {
      steps = λ s is. then_on s b mid mid (stage_of (stage.Answering a)) (stage_of (stage.Answering x)) (stage_of c.ended_after.result)
          (c.put_some-answering.ensures.steps s is)
          (cut_answering s mid x.closing x.sending x.closes x.drain FolderFault (stage_of c.ended_after.result) c.ended_after.ensures.stage
          (λ wrong. cc));
      fits = λ tree. fault_fits c.args.role tree (told_by files c.args.folder.now) (faults_by files c.args.folder.now c.args.base.now.number)
          (faults_by files c.put_some-answering.new.folder c.args.base.now.number) b mid a.closing a.sending a.closes a.drain x.closing
          x.sending x.closes x.drain keeps c.put_some-answering.ensures.puttable
          (stage_of c.ended_after.result) c.ended_after.ensures.stage
          (ap (λ (y : model.Base). y.port.input) c.put_some-answering.ensures.base) (c.put_some-answering.ensures.fault c.in-FolderFault.is);
      folder = c.put_some-answering.ensures.folder;
      idle = c.put_some-answering.ensures.idle;
    }

pub returns-in-Whole : goal.returns-in-Whole
returns-in-Whole g c =
    let shows = g.L.Link.shows in
    let files = g.F.Folder.shows in
    let a = c.args.answering in
    let x = c.put_some-answering.result.0 in
    let b = base_of shows c.args.base.now in
    let mid = base_of shows c.put_some-answering.new.base in
    let keeps = output_keeps b mid c.put_some-answering.new.base.port.output c.put_some-answering.ensures.base in
    let after = base_of shows c.leave_on.new.base in
    let y = stage_of (stage.Answering x) in
    record {
      steps = λ s is. then_on s b mid after (stage_of (stage.Answering a)) y (stage_of c.leave_on.result.0)
          (c.put_some-answering.ensures.steps s is) (c.leave_on.ensures.steps s);
      fits = λ tree. whole_fits c.args.role tree (told_by files c.args.folder.now) (faults_by files c.args.folder.now c.args.base.now.number)
          (faults_by files c.put_some-answering.new.folder c.args.base.now.number) b mid after (stage_of (stage.Answering a)) y
          (stage_of c.leave_on.result.0) c.leave_on.result.1
          (ap (λ (z : model.Base). 8 * length z.port.input.items + 4) c.put_some-answering.ensures.base) keeps
          (c.args.base.now.port.output_len ∙ sym c.put_some-answering.new.base.port.output_len) c.put_some-answering.ensures.grows
          c.leave_on.ensures.written tt (λ end is. cc)
          (c.leave_on.ensures.fits tree (told_by files c.args.folder.now) (faults_by files c.args.folder.now c.args.base.now.number)
          (faults_by files c.put_some-answering.new.folder c.args.base.now.number) c.put_some-answering.ensures.puttable);
      folder = c.put_some-answering.ensures.folder;
      idle = c.put_some-answering.ensures.idle;
    }
