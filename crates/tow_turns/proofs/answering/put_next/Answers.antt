use Rattle.std.proofs.Common.{refl}
use Rattle.tow_walks.specs.Folders.{told_by}
use Rattle.tow_turns.specs.Data.{base_of}
use Rattle.tow_turns.proofs.Sends.{parts_left, put_leads}
use Rattle.tow_turns.proofs.answering.put_next.Goals as goal

pub returns : goal.returns
returns g c = record {
  steps = λ s is. put_leads s (base_of g.L.Link.shows c.args.base.now) c.args.answering.closing c.args.answering.sending
      c.put-sent.new.sending c.args.answering.closes c.args.answering.drain c.put-sent.result c.put-sent.new.pipe
      (c.put-sent.ensures.puts s.files is) c.put-sent.ensures.left;
  parts = parts_left (told_by g.F.Folder.shows c.args.folder.now) c.put-sent.result c.args.answering.sending c.put-sent.new.sending
      c.put-sent.ensures.left c.requires.parts;
  tells = c.put-sent.ensures.tells;
  left = c.put-sent.ensures.left;
  rest = record { closing = refl; closes = refl; drain = refl };
  base = refl;
  full = c.put-sent.ensures.full;
  grows = c.put-sent.ensures.grows;
  fault = c.put-sent.ensures.fault;
  folder = c.put-sent.ensures.folder;
  idle = c.put-sent.ensures.idle;
}
