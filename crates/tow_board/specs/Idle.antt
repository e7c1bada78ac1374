-- A seat that holds nothing.
use Rattle.std.specs.Prelude.{◌≡◌, ℕ, []}
use Rattle.atomic_table.specs.Seated.{TableId}
use Rattle.tow_model.specs.declared.account.Role.{Role}
use Rattle.tow_board.specs.declared.view.View.{View}

-- a seat of that role at that board, for so many loops, with nothing in its hand
pub record IsIdle {O M : Type 0} (board : TableId) (loops : ℕ) (wanted : Role) (table : TableId) (role : Role) (view : View O M) : Type 0 where
  pub here : table ≡ board
  pub acts : role ≡ wanted
  pub many : view.loops ≡ loops
  pub empty : view.hand ≡ []
