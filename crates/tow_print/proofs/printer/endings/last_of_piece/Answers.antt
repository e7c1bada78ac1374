use Rattle.std.proofs.Common.{arith}
use Rattle.std.proofs.lemmas.Grind.{common_steps}
use Rattle.tow_print.proofs.Pieces.{last_of_literal}
use Rattle.tow_print.proofs.printer.endings.last_of_piece.Goals as goal

pub returns-in-Literal : goal.returns-in-Literal
returns-in-Literal c = grind (arith, common_steps, last_of_literal)
