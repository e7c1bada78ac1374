use Rattle.std.proofs.Common.{append_assoc}
use Rattle.tow_print.proofs.printer.actions.put_set.Goals as goal

pub returns : goal.returns
returns c =
    rw append_assoc (rw (c.in_ok-put_target.ensures, c.in_ok-extend_from_slice.ensures.items, append_assoc, append_assoc) at c.in_ok-put_call_of_template.ensures)
