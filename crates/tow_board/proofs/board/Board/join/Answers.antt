use Rattle.std.proofs.Common.{sym, subst, ap, ℕ, ◌<◌, ◌∙◌}
use Rattle.tow_board.specs.Finds.{has}
use Rattle.tow_board.specs.Owners.{role_number}
use Rattle.tow_board.specs.Rule.{kind_of}
use Rattle.tow_board.proofs.Dealing.{joins}
use Rattle.tow_board.proofs.Seats.{none_left}
use Rattle.tow_board.proofs.Words.{role_real}
use Rattle.tow_board.proofs.board.Board.join.Goals as goal

pub join_seat-requires : goal.join_seat-requires
join_seat-requires g c =
    let sized = c.args.self.now.sized in
    let seat = c.args.seat.now in
    let other = c.args.other in (
      c.requires.table.0,
      c.requires.table.1,
      none_left other.seat.me.1 (λ k. other.carries k ∙ ap (λ h. has k h) c.requires.empty),
      subst (λ (m : ℕ). 0 < m) (sym sized.0) sized.3,
      joins (kind_of g.T.Held.fits g.T.Held.origin g.T.Held.number g.T.Held.loop_of g.T.Held.mark g.T.Held.fresh g.T.Held.follows g.T.Held.tells) _ _ _ seat.seat.me.0 other.seat.me.0 (seat.role_is ∙ ap role_number c.requires.main) (λ e. role_real other.role (sym other.role_is ∙ e)) c.requires.empty,
    )
