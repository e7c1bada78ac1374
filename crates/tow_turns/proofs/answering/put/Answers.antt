use Rattle.std.proofs.Common.{◌∙◌, Option, None, Some, refl, sym, subst}
use Rattle.tow_semantics.specs.Files.{Files}
use Rattle.tow_link.specs.Data.{Rose}
use Rattle.tow_sending.specs.Pieces.{Puts, room_of}
use Rattle.tow_walks.specs.Folders.{FolderStays, faults_by}
use Rattle.tow_walks.proofs.Folders.{folder_stays}
use Rattle.tow_turns.specs.Roles.{IsLoop}
use Rattle.tow_turns.proofs.Fits.{is_no_loop}
use Rattle.tow_turns.proofs.Sends.{folder_has, folder_tells, full_stays, none_is_loop, put_no_fault, puts_capacity, puts_grow, told_of_loop, told_of_other}
use Rattle.tow_turns.proofs.answering.put.Goals as goal

pub put_file-requires : goal.put_file-requires
put_file-requires g c =
    folder_has g.F.Folder.shows c.args.folder.now c.in-Some.folder c.args.sending.now c.in-Some.is c.requires.parts

pub returns-then-is_loop : goal.returns-then-is_loop
returns-then-is_loop g c =
    let room = room_of c.args.pipe.now in
    let pieces = c.args.sending.now in
    let loop : IsLoop c.args.role = c.is_loop.ensures.0 c.if-is_loop.true in
    record {
      puts = λ files is. c.put.ensures.puts (Some files);
      tells = λ has fine. c.put.ensures.tells ∙ sym (told_of_loop c.args.role loop room pieces);
      left = c.put.ensures.left;
      full = full_stays None c.put.result pieces c.args.pipe.now c.put.new.pipe (c.put.ensures.puts None);
      grows = puts_grow None c.put.result pieces c.args.pipe.now c.put.new.pipe (c.put.ensures.puts None);
      capacity = puts_capacity None c.put.result pieces c.args.pipe.now c.put.new.pipe (c.put.ensures.puts None);
      fault = λ is. absurd (put_no_fault room pieces (sym c.put.ensures.tells ∙ is));
      folder = folder_stays g.F.Folder.shows c.args.k c.args.folder.now;
      idle = λ is. refl;
    }

pub returns-in-Some : goal.returns-in-Some
returns-in-Some g c =
    let shows = g.F.Folder.shows in
    let room = room_of c.args.pipe.now in
    let pieces = c.args.sending.now in
    let folder = c.args.folder.now in
    let new = Some c.put_file.new.folder in
    let pipe = c.put_file.new.pipe in
    let told = (shows c.in-Some.folder).told in
    let other : IsLoop c.args.role → ⊥ =
    is_no_loop c.args.role c.is_loop.result c.is_loop.ensures c.if-is_loop.false in
    record {
      puts = λ files is. subst (λ (o : Option Files). Puts o c.put_file.result pieces c.args.pipe.now pipe)
          (folder_tells shows folder c.in-Some.folder c.in-Some.is files is) c.put_file.ensures.puts;
      tells = λ has fine. c.put_file.ensures.tells fine ∙ sym (told_of_other c.args.role other room pieces);
      left = c.put_file.ensures.left;
      full = full_stays told c.put_file.result pieces c.args.pipe.now pipe c.put_file.ensures.puts;
      grows = puts_grow told c.put_file.result pieces c.args.pipe.now pipe c.put_file.ensures.puts;
      capacity = puts_capacity told c.put_file.result pieces c.args.pipe.now pipe c.put_file.ensures.puts;
      fault = λ is. subst (λ x. Rose (faults_by shows x c.args.k) (faults_by shows new c.args.k)) (sym c.in-Some.is)
          (c.put_file.ensures.fault is);
      folder = subst (λ x. FolderStays shows c.args.k x new) (sym c.in-Some.is)
          (record { told = c.put_file.ensures.told; later = c.put_file.ensures.later; others = c.put_file.ensures.others });
      idle = λ loop. absurd (other loop);
    }

pub returns-in-None : goal.returns-in-None
returns-in-None g c =
    let room = room_of c.args.pipe.now in
    let pieces = c.args.sending.now in
    let puts = c.put-in-None.ensures.puts None in
    let other : IsLoop c.args.role → ⊥ =
    is_no_loop c.args.role c.is_loop.result c.is_loop.ensures c.if-is_loop.false in
    record {
      puts = λ files is. c.put-in-None.ensures.puts (Some files);
      tells = λ has fine. absurd (other (none_is_loop c.args.role c.args.folder.now c.in-None.is has));
      left = c.put-in-None.ensures.left;
      full = full_stays None c.put-in-None.result pieces c.args.pipe.now c.put-in-None.new.pipe puts;
      grows = puts_grow None c.put-in-None.result pieces c.args.pipe.now c.put-in-None.new.pipe puts;
      capacity = puts_capacity None c.put-in-None.result pieces c.args.pipe.now c.put-in-None.new.pipe puts;
      fault = λ is. absurd (put_no_fault room pieces (sym c.put-in-None.ensures.tells ∙ is));
      folder = folder_stays g.F.Folder.shows c.args.k c.args.folder.now;
      idle = λ is. refl;
    }
