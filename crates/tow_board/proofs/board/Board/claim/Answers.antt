use Rattle.std.proofs.Common.{sym, subst, ap, ℕ, ◌<◌, ◌≡◌, ◌∙◌, ◌∷◌, Option, Some, false}
use Rattle.atomic_table.specs.Table.{Me}
use Rattle.tow_board.specs.declared.view.View.{View}
use Rattle.tow_board.specs.Answers.{IfYours, after_claim}
use Rattle.tow_board.specs.Finds.{has}
use Rattle.tow_board.specs.Owners.{to_for}
use Rattle.tow_board.specs.Steps.{ComesBack}
use Rattle.tow_board.specs.Views.{saw}
use Rattle.tow_board.proofs.Claims.{yours_on}
use Rattle.tow_board.specs.Rule.{kind_of}
use Rattle.tow_board.proofs.Opening.{looks_for}
use Rattle.tow_board.proofs.board.Board.claim.Goals as goal

pub load-seen-requires : goal.load-seen-requires
load-seen-requires g c =
    let sized = c.args.self.now.sized in
    let slot : ℕ = c.args.slot in
    let seat = c.args.seat.now in (
      c.requires.table,
      subst (λ (m : ℕ). slot < m) (sym sized.0) c.requires.slot,
      looks_for (kind_of g.T.Held.fits g.T.Held.origin g.T.Held.number g.T.Held.loop_of g.T.Held.mark g.T.Held.fresh g.T.Held.follows g.T.Held.tells) _ _ _ seat.seat.me slot (subst (λ (m : ℕ). slot < m) (sym sized.1) c.requires.slot),
    )

pub returns-clause-yours : goal.returns-clause-yours
returns-clause-yours g c =
    let slot : ℕ = c.args.slot in
    let old = c.args.seat.now in
    let after = c.exchange_word.new.seat.seat.me in
    let role = old.role in
    let Won : Me (Option g.row.T.Denot) (View g.row.T-Origin.Denot g.row.T-Mark.Denot) → Type 0 = λ m. (x : g.row.T.Denot)
    × (after.1 ≡ (slot, Some x) ∷ m.1) × (has slot m.1 ≡ false) × g.T.Held.fits m.0.loops (to_for role) x
    × (after.0 ≡ after_claim g.T.Held.number role m.0 slot (g.T.Held.origin x, g.T.Held.mark x))
    × ComesBack g.T.Held.number g.T.Held.fresh g.T.Held.follows m.0 (g.T.Held.origin x, g.T.Held.mark x) in
    let seen : c.load-seen.new.seat.me ≡ (saw old.seat.me.0 slot c.args.code, old.seat.me.1) = c.load-seen.ensures.2 ∙ ap (λ (n : ℕ). (saw old.seat.me.0 slot n, old.seat.me.1)) c.if-seen-code.false in
    yours_on c.exchange_word.result (Won (saw old.seat.me.0 slot c.args.code, old.seat.me.1)) _
    (λ it. (it.0, it.1, it.2, it.3, it.4, record { again = it.5.again; first = it.5.first }))
    (subst (λ m. IfYours c.exchange_word.result (Won m)) seen c.exchange_word.ensures.yours)
