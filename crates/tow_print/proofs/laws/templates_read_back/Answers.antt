use Rattle.tow_print.proofs.Templates.{template_again}
use Rattle.tow_print.proofs.laws.templates_read_back.Goals as goal

pub returns : goal.returns
returns c = template_again
