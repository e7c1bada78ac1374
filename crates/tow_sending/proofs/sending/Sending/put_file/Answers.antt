use Rattle.std.proofs.Common.{◌≡◌, refl, sym, ◌∙◌}
use Rattle.tow_sending.specs.declared.sent.Next.TheVariants as next
use Rattle.tow_sending.specs.Pieces.{next_of, room_of}
use Rattle.tow_sending.proofs.Steps.{part_put_tells, part_put_leaves, part_put_puts, file_full, reads_so}
use Rattle.tow_sending.proofs.sending.Sending.put_file.Goals as goal

pub returns-in-Put-clause-tells : goal.returns-in-Put-clause-tells
returns-in-Put-clause-tells g c =
    λ apart. part_put_tells c.args.self.now c.put_part.new.self c.after_piece.result (room_of c.args.pipe.now) c.in-Put.ensures.puts.0 c.in-Put.ensures.left c.after_piece.ensures

pub returns-in-Put-clause-left : goal.returns-in-Put-clause-left
returns-in-Put-clause-left g c =
    part_put_leaves c.args.self.now c.put_part.new.self c.after_piece.result c.in-Put.ensures.left c.after_piece.ensures

pub returns-in-Put-clause-puts : goal.returns-in-Put-clause-puts
returns-in-Put-clause-puts g c =
    part_put_puts (g.F.Folder.shows c.args.folder.now).told c.args.self.now c.put_part.new.self c.after_piece.result c.args.pipe.now
    c.put_part.new.pipe c.in-Put.ensures.puts.1 c.in-Put.ensures.left c.after_piece.ensures

pub returns-in-Put-clause-idle : goal.returns-in-Put-clause-idle
returns-in-Put-clause-idle g c =
    let is : next_of c.args.self.now ≡ next.File = sym c.next.ensures ∙ c.in-File.is in
    λ still. let reads = reads_so c.args.self.now (room_of c.args.pipe.now) is c.in-Put.ensures.puts.0 in absurd cc

pub returns-in-NoRoom-clause-tells : goal.returns-in-NoRoom-clause-tells
returns-in-NoRoom-clause-tells g c =
    let is : next_of c.args.self.now ≡ next.File = sym c.next.ensures ∙ c.in-File.is in
    λ apart. file_full c.args.self.now (room_of c.args.pipe.now) is c.in-NoRoom.ensures.puts.0

pub returns-in-NoRoom-clause-idle : goal.returns-in-NoRoom-clause-idle
returns-in-NoRoom-clause-idle g c =
    λ still. c.in-NoRoom.ensures.idle refl

pub returns-in-Fault-clause-reads : goal.returns-in-Fault-clause-reads
returns-in-Fault-clause-reads g c =
    let is : next_of c.args.self.now ≡ next.File = sym c.next.ensures ∙ c.in-File.is in
    λ same. reads_so c.args.self.now (room_of c.args.pipe.now) is c.in-Fault.ensures.puts.0

pub returns-in-Fault-clause-idle : goal.returns-in-Fault-clause-idle
returns-in-Fault-clause-idle g c =
    let is : next_of c.args.self.now ≡ next.File = sym c.next.ensures ∙ c.in-File.is in
    λ still. let reads = reads_so c.args.self.now (room_of c.args.pipe.now) is c.in-Fault.ensures.puts.0 in absurd cc
