use Rattle.tow_model.specs.declared.account.Role.TheVariants.{Main}
use Rattle.tow_board.specs.Idle.{IsIdle}
use Rattle.tow_board.proofs.tests.collect_all.Given as goal

abbrev pub invariant-loop-slot : goal.invariant-loop-slot
invariant-loop-slot l = IsIdle l.board.table.shared.table_id 2 Main l.main.seat.table_id l.main.role l.main.seat.me.0
