use Rattle.std.proofs.Common.{◌≡◌, ◌<◌, ℕ, List, length, Option, refl, sym, ap, subst, ◌∙◌, arith}
use Rattle.tow_link.specs.Data.{Rose}
use Rattle.tow_semantics.specs.Files.{Files}
use Rattle.tow_sending.specs.Pieces.{Piece, left_after, room_of}
use Rattle.tow_sending.specs.declared.sent.Sent.{Sent}
use Rattle.tow_walks.specs.Folders.{FolderStays, faults_by, told_by}
use Rattle.tow_walks.proofs.Folders.{folder_further, folder_stays, rose_later, tells_same}
use Rattle.tow_stages.specs.Stages.{Base}
use Rattle.tow_turns.specs.Data.{base_of, stage_of}
use Rattle.tow_turns.specs.Folders.{HasPartsIn}
use Rattle.tow_turns.specs.Puttings.{with_output}
use Rattle.tow_turns.specs.declared.stage.Stage.TheVariants as stage
use Rattle.tow_turns.proofs.Cuts.{rests}
use Rattle.tow_turns.proofs.Sends.{fewer_pieces, has_put, has_still, puttable_still, tells_still}
use Rattle.tow_turns.proofs.Tellings.{then_on}
use Rattle.tow_turns.proofs.answering.put_some.Goals as goal

pub pieces-init : goal.pieces-init
pieces-init g c = record {
  steps = λ s is. rests s (base_of g.L.Link.shows c.args.base.now) (stage_of (stage.Answering c.args.answering));
  puttable = c.requires.puttable;
  base = refl;
  grows = omega arith;
  folder = folder_stays g.F.Folder.shows c.args.base.now.number c.args.folder.now;
  idle = λ loop. refl;
}

pub put_next-next-requires : goal.put_next-next-requires
put_next-next-requires g c = record {
  parts = subst (λ (told : Option Files). HasPartsIn told c.pieces.answering.sending)
      (sym (tells_same g.F.Folder.shows c.args.base.now.number c.args.folder.now c.pieces.folder c.pieces.invariant.folder))
      c.pieces.invariant.puttable.parts;
}

pub pieces-preserved : goal.pieces-preserved
pieces-preserved g c =
    let shows = g.L.Link.shows in
    let files = g.F.Folder.shows in
    let k = c.args.base.now.number in
    let i = c.pieces.invariant in
    let at : c.pieces.base.number ≡ k = ap (λ (b : Base). b.number) i.base in
    let further : FolderStays files k c.pieces.folder c.put_next-next.new.folder =
    subst (λ (n : ℕ). FolderStays files n c.pieces.folder c.put_next-next.new.folder) at c.put_next-next.ensures.folder in
    let same : told_by files c.pieces.folder ≡ told_by files c.args.folder.now = tells_same files k c.args.folder.now c.pieces.folder i.folder in
    let more = c.put_next-next.ensures.grows in
    let before = i.grows in
    record {
      steps = λ s is. then_on s (base_of shows c.args.base.now) (base_of shows c.pieces.base) (base_of shows c.put_next-next.new.base)
          (stage_of (stage.Answering c.args.answering)) (stage_of (stage.Answering c.pieces.answering))
          (stage_of (stage.Answering c.put_next-next.result.0)) (i.steps s is)
          (c.put_next-next.ensures.steps s (tells_still files k c.args.folder.now c.pieces.folder i.folder s.files is));
      puttable = puttable_still (told_by files c.args.folder.now) (base_of shows c.pieces.base) (base_of shows c.put_next-next.new.base)
          c.pieces.answering c.put_next-next.result.0 c.put_next-next.result.1 c.put_next-next.new.base.port.output
          c.put_next-next.ensures.base c.put_next-next.ensures.rest c.put_next-next.ensures.left
          (subst (λ (told : Option Files). HasPartsIn told c.put_next-next.result.0.sending) same c.put_next-next.ensures.parts) i.puttable;
      base = c.put_next-next.ensures.base ∙ ap (λ (b : Base). with_output c.put_next-next.new.base.port.output b) i.base;
      grows = omega (arith, more, before);
      folder = folder_further files k c.args.folder.now c.pieces.folder c.put_next-next.new.folder i.folder further;
      idle = λ loop. c.put_next-next.ensures.idle loop ∙ i.idle loop;
    }

pub pieces-smaller : goal.pieces-smaller
pieces-smaller g c =
    let files = g.F.Folder.shows in
    let i = c.pieces.invariant in
    let has = has_still files c.args.base.now.number c.args.role c.args.folder.now c.pieces.folder i.folder c.requires.equipped in
    let put = sym (c.put_next-next.ensures.tells has (λ fault. let wrong = sym c.in-Piece.is ∙ fault in cc)) ∙ c.in-Piece.is in
    let fewer = fewer_pieces c.args.role (room_of c.pieces.base.port.output) c.pieces.answering.sending put in
    subst (λ (l : List Piece). length l < length c.pieces.answering.sending)
    (sym (c.put_next-next.ensures.left ∙ ap (λ (x : Sent). left_after x c.pieces.answering.sending) c.in-Piece.is)) fewer

pub returns-in_default : goal.returns-in_default
returns-in_default g c =
    let shows = g.L.Link.shows in
    let files = g.F.Folder.shows in
    let k = c.args.base.now.number in
    let i = c.pieces.invariant in
    let at : c.pieces.base.number ≡ k = ap (λ (b : Base). b.number) i.base in
    let further : FolderStays files k c.pieces.folder c.put_next-next.new.folder =
    subst (λ (n : ℕ). FolderStays files n c.pieces.folder c.put_next-next.new.folder) at c.put_next-next.ensures.folder in
    let same : told_by files c.pieces.folder ≡ told_by files c.args.folder.now = tells_same files k c.args.folder.now c.pieces.folder i.folder in
    let has = has_still files k c.args.role c.args.folder.now c.pieces.folder i.folder c.requires.equipped in
    let more = c.put_next-next.ensures.grows in
    let before = i.grows in
    record {
      steps = λ s is. then_on s (base_of shows c.args.base.now) (base_of shows c.pieces.base) (base_of shows c.put_next-next.new.base)
          (stage_of (stage.Answering c.args.answering)) (stage_of (stage.Answering c.pieces.answering))
          (stage_of (stage.Answering c.put_next-next.result.0)) (i.steps s is)
          (c.put_next-next.ensures.steps s (tells_still files k c.args.folder.now c.pieces.folder i.folder s.files is));
      puttable = puttable_still (told_by files c.args.folder.now) (base_of shows c.pieces.base) (base_of shows c.put_next-next.new.base)
          c.pieces.answering c.put_next-next.result.0 c.put_next-next.result.1 c.put_next-next.new.base.port.output
          c.put_next-next.ensures.base c.put_next-next.ensures.rest c.put_next-next.ensures.left
          (subst (λ (told : Option Files). HasPartsIn told c.put_next-next.result.0.sending) same c.put_next-next.ensures.parts) i.puttable;
      put = has_put c.args.role c.put_next-next.result.1 c.pieces.answering.sending c.put_next-next.result.0.sending c.pieces.base.port.output
          c.put_next-next.new.base.port.output (c.put_next-next.ensures.tells has) c.put_next-next.ensures.left c.put_next-next.ensures.full
          (λ is. absurd (c.in_default.not-Piece is));
      grows = omega (arith, more, before);
      base = c.put_next-next.ensures.base ∙ ap (λ (b : Base). with_output c.put_next-next.new.base.port.output b) i.base;
      fault = λ is. rose_later files k c.args.folder.now c.pieces.folder c.put_next-next.new.folder i.folder
          (subst (λ (n : ℕ). Rose (faults_by files c.pieces.folder n) (faults_by files c.put_next-next.new.folder n)) at
          (c.put_next-next.ensures.fault is));
      folder = folder_further files k c.args.folder.now c.pieces.folder c.put_next-next.new.folder i.folder further;
      idle = λ loop. c.put_next-next.ensures.idle loop ∙ i.idle loop;
    }

pub returns-then-is_to_write : goal.returns-then-is_to_write
returns-then-is_to_write g c =
    let shows = g.L.Link.shows in
    let files = g.F.Folder.shows in
    let k = c.args.base.now.number in
    let i = c.pieces.invariant in
    let at : c.pieces.base.number ≡ k = ap (λ (b : Base). b.number) i.base in
    let further : FolderStays files k c.pieces.folder c.put_next-next.new.folder =
    subst (λ (n : ℕ). FolderStays files n c.pieces.folder c.put_next-next.new.folder) at c.put_next-next.ensures.folder in
    let same : told_by files c.pieces.folder ≡ told_by files c.args.folder.now = tells_same files k c.args.folder.now c.pieces.folder i.folder in
    let has = has_still files k c.args.role c.args.folder.now c.pieces.folder i.folder c.requires.equipped in
    let more = c.put_next-next.ensures.grows in
    let before = i.grows in
    let yes = c.is_to_write.ensures c.if-is_to_write.true in
    record {
      steps = λ s is. then_on s (base_of shows c.args.base.now) (base_of shows c.pieces.base) (base_of shows c.put_next-next.new.base)
          (stage_of (stage.Answering c.args.answering)) (stage_of (stage.Answering c.pieces.answering))
          (stage_of (stage.Answering c.put_next-next.result.0)) (i.steps s is)
          (c.put_next-next.ensures.steps s (tells_still files k c.args.folder.now c.pieces.folder i.folder s.files is));
      puttable = puttable_still (told_by files c.args.folder.now) (base_of shows c.pieces.base) (base_of shows c.put_next-next.new.base)
          c.pieces.answering c.put_next-next.result.0 c.put_next-next.result.1 c.put_next-next.new.base.port.output
          c.put_next-next.ensures.base c.put_next-next.ensures.rest c.put_next-next.ensures.left
          (subst (λ (told : Option Files). HasPartsIn told c.put_next-next.result.0.sending) same c.put_next-next.ensures.parts) i.puttable;
      put = has_put c.args.role c.put_next-next.result.1 c.pieces.answering.sending c.put_next-next.result.0.sending c.pieces.base.port.output
          c.put_next-next.new.base.port.output (c.put_next-next.ensures.tells has) c.put_next-next.ensures.left c.put_next-next.ensures.full
          (λ is. (yes.0, subst (λ (n : ℕ). 0 < n) c.len.ensures yes.1));
      grows = omega (arith, more, before);
      base = c.put_next-next.ensures.base ∙ ap (λ (b : Base). with_output c.put_next-next.new.base.port.output b) i.base;
      fault = λ is. rose_later files k c.args.folder.now c.pieces.folder c.put_next-next.new.folder i.folder
          (subst (λ (n : ℕ). Rose (faults_by files c.pieces.folder n) (faults_by files c.put_next-next.new.folder n)) at
          (c.put_next-next.ensures.fault is));
      folder = folder_further files k c.args.folder.now c.pieces.folder c.put_next-next.new.folder i.folder further;
      idle = λ loop. c.put_next-next.ensures.idle loop ∙ i.idle loop;
    }
