use Rattle.tow_board.specs.Owners.{role_number}
use Rattle.tow_board.proofs.board.Board.split.Given as goal

abbrev pub ghosts-split_as : goal.ghosts-split_as
ghosts-split_as g a = record { role = role_number a.role }
