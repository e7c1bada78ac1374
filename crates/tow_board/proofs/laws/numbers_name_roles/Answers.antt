use Rattle.tow_board.proofs.Words.{one_role, role_real}
use Rattle.tow_board.proofs.laws.numbers_name_roles.Goals as goal

pub returns-clause-one : goal.returns-clause-one
returns-clause-one c = one_role

pub returns-clause-live : goal.returns-clause-live
returns-clause-live c = role_real
