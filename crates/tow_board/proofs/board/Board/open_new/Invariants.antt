use Rattle.std.proofs.Common.{◌≡◌, ℕ, ◌<◌, true}
use Rattle.tow_board.specs.Finds.{has}
use Rattle.tow_board.proofs.board.Board.open_new.Given as goal

abbrev pub invariant-loop-slot : goal.invariant-loop-slot
invariant-loop-slot g l = record {
  table : l.seat.seat.table_id ≡ l.fn.seat.seat.table_id;
  role : l.seat.role ≡ l.fn.seat.role;
  same : l.seat.seat.me ≡ l.fn.seat.seat.me;
  below : (k : ℕ) → k < l.slot → has k l.fn.seat.seat.me.0.live ≡ true;
}
