use Rattle.std.proofs.Common.{arith, sym}
use Rattle.tow_print.proofs.Words.{last_is}
use Rattle.tow_print.proofs.printer.endings.last_byte.Goals as goal

pub returns : goal.returns
returns c = sym (last_is c.args.before c.args.bytes.now (grind (arith, c.is_empty.ensures, c.if-is_empty.false)))
