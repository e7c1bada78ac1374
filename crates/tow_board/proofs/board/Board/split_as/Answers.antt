use Rattle.std.proofs.Common.{sym, subst, ap, ℕ, ◌<◌, ◌≤◌, ◌≡◌, ◌∙◌, false}
use Rattle.tow_board.specs.Finds.{has}
use Rattle.tow_board.specs.Owners.{role_number}
use Rattle.tow_board.specs.Rule.{kind_of}
use Rattle.tow_board.proofs.Dealing.{splits}
use Rattle.tow_board.proofs.Words.{two_up}
use Rattle.tow_board.proofs.board.Board.split_as.Goals as goal

pub split_seat-requires : goal.split_seat-requires
split_seat-requires g c =
    let sized = c.args.self.now.sized in
    let seat = c.args.seat.now in
    let given = seat.seat.me.0.given in
    let role = sym c.requires.picked in (
      c.requires.table,
      subst (λ (m : ℕ). 0 < m) (sym sized.0) sized.3,
      splits (kind_of g.T.Held.fits g.T.Held.origin g.T.Held.number g.T.Held.loop_of g.T.Held.mark g.T.Held.fresh g.T.Held.follows g.T.Held.tells) _ _ _ seat.seat.me.0 (seat.role_is ∙ ap role_number c.requires.main) (subst (λ (m : ℕ). 2 ≤ m) role (two_up c.args.role c.requires.new.0)) (subst (λ (m : ℕ). has m given ≡ false) role c.requires.new.1),
    )
