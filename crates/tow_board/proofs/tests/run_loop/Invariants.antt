use Rattle.tow_model.specs.declared.account.Role.TheVariants.{Loop}
use Rattle.tow_board.specs.Idle.{IsIdle}
use Rattle.tow_board.proofs.tests.run_loop.Given as goal

abbrev pub invariant-loop : goal.invariant-loop
invariant-loop l = IsIdle l.board.table.shared.table_id 2 (Loop l.number) l.seat.seat.table_id l.seat.role l.seat.seat.me.0

abbrev pub invariant-loop-slot : goal.invariant-loop-slot
invariant-loop-slot l = IsIdle l.board.table.shared.table_id 2 (Loop l.number) l.seat.seat.table_id l.seat.role l.seat.seat.me.0
