use Rattle.std.proofs.Common.{◌≡◌, ◌<◌, []}
use Rattle.std.specs.Prelude.{All}
use Rattle.tow_model.specs.declared.account.Role.TheVariants.{Main}
use Rattle.tow_board.specs.Idle.{IsIdle}
use Rattle.tow_board.proofs.tests.start_all.Given as goal

abbrev pub invariant-loop-number : goal.invariant-loop-number
invariant-loop-number l = record {
  idle : IsIdle l.board.table.shared.table_id 2 Main l.main.seat.table_id l.main.role l.main.seat.me.0;
  above : All (λ n. n < l.number) l.main.seat.me.0.numbers;
  given : l.main.seat.me.0.given ≡ [];
  loops : l.board.loops ≡ 2;
}
