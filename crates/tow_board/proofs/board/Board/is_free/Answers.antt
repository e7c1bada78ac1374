use Rattle.std.proofs.Common.{sym, subst, ap, ℕ, ◌<◌, ◌∙◌}
use Rattle.tow_board.specs.Owners.{role_number}
use Rattle.tow_board.specs.Rule.{kind_of}
use Rattle.tow_board.proofs.Opening.{looks}
use Rattle.tow_board.proofs.board.Board.is_free.Goals as goal

pub load-requires : goal.load-requires
load-requires g c =
    let sized = c.args.self.now.sized in
    let slot : ℕ = c.args.slot in
    let seat = c.args.seat.now in (
      c.requires.table,
      subst (λ (m : ℕ). slot < m) (sym sized.0) c.requires.slot,
      looks (kind_of g.T.Held.fits g.T.Held.origin g.T.Held.number g.T.Held.loop_of g.T.Held.mark g.T.Held.fresh g.T.Held.follows g.T.Held.tells) _ _ _ seat.seat.me slot (seat.role_is ∙ ap role_number c.requires.main) (subst (λ (m : ℕ). slot < m) (sym sized.1) c.requires.slot),
    )
