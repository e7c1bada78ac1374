use Rattle.std.proofs.Common.{sym, subst, ℕ, ◌<◌, ◌≤◌, ◌∙◌}
use Rattle.tow_board.specs.declared.owner.To.{To}
use Rattle.tow_board.specs.Owners.{to_for}
use Rattle.tow_board.specs.Rule.{kind_of}
use Rattle.tow_board.proofs.Claims.{claims}
use Rattle.tow_board.proofs.Words.{at_loop, role_real, two_or_more}
use Rattle.tow_board.proofs.board.Board.exchange_word.Goals as goal

pub compare_exchange-found-requires : goal.compare_exchange-found-requires
compare_exchange-found-requires g c =
    let sized = c.args.self.now.sized in
    let slot : ℕ = c.args.slot in
    let seat = c.args.seat.now in
    let loops = c.args.self.now.table.shared.key in (
      c.requires.table,
      subst (λ (m : ℕ). slot < m) (sym sized.0) c.requires.slot,
      claims (kind_of g.T.Held.fits g.T.Held.origin g.T.Held.number g.T.Held.loop_of g.T.Held.mark g.T.Held.fresh g.T.Held.follows g.T.Held.tells) loops
          (λ l x fit. g.met.T.Held.fits_one_loop loops l x (subst (λ (to : To). g.T.Held.fits loops to x) (at_loop l) fit))
          _ _ seat.seat.me slot c.args.code seat.role seat.role_is (λ e. role_real seat.role (sym seat.role_is ∙ e))
          (subst (λ (m : ℕ). slot < m) (sym sized.1) c.requires.slot) c.requires.code
          (subst (λ (n : ℕ). 2 ≤ n) (sym c.requires.code) (two_or_more (to_for seat.role))),
    )
