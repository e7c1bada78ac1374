use Rattle.tow_print.proofs.Back.{print_is_read_back}
use Rattle.tow_print.proofs.laws.print_reads_back.Goals as goal

pub returns : goal.returns
returns c = print_is_read_back
