use Rattle.std.proofs.Common.{arith, sym, subst, ap, ℕ, ◌<◌, ◌≡◌, ◌∙◌, List, ◌∷◌, Option, Some, None, true}
use Rattle.std.specs.Prelude.{is_some}
use mathlib.Core.Option.{none}
use Rattle.atomic_table.specs.Table.{Me, Allows, step, rest}
use Rattle.tow_board.specs.declared.view.View.{View}
use Rattle.tow_board.specs.Finds.{find, has, distinct}
use Rattle.tow_board.specs.Owners.{role_number}
use Rattle.tow_board.specs.Rule.{BoardRule, kind_of}
use Rattle.tow_board.specs.Steps.{ended}
use Rattle.tow_board.proofs.Lists.{has_else}
use Rattle.tow_board.proofs.Opening.{ends}
use Rattle.tow_board.proofs.Seats.{loses, distinct_rest, has_lost}
use Rattle.tow_board.proofs.board.Board.retire.Goals as goal

pub store-requires : goal.store-requires
store-requires g c =
    let sized = c.args.self.now.sized in
    let slot : ℕ = c.args.slot in
    let seat = c.bring.new.self in
    let first = c.bring.ensures.first in
    let emptied = ap (λ (m : Me (Option g.row.T.Denot) (View g.row.T-Origin.Denot g.row.T-Mark.Denot)). find slot m.1) c.lower.ensures.same.3 ∙ c.requires.empty in
    let is : first.0 ≡ None = let z : Some first.0 ≡ Some None = sym first.1 ∙ emptied in cc in
    let there : seat.seat.me.1 ≡ (slot, None) ∷ rest seat.seat.me.1 = first.2 ∙ ap (λ (y : Option g.row.T.Denot). (slot, y) ∷ rest seat.seat.me.1) is in
    let hand : has slot seat.seat.me.0.hand ≡ true = sym (seat.carries slot) ∙ (ap (λ (o : Option (Option g.row.T.Denot)). is_some o) (c.bring.ensures.others slot ∙ emptied)) in (
      c.bring.ensures.same.0 ∙ (c.lower.ensures.same.0 ∙ c.requires.table),
      subst (λ (m : ℕ). slot < m) (ap (λ z. z.slots) (c.bring.ensures.same.0 ∙ (c.lower.ensures.same.0 ∙ c.requires.table)) ∙ (sized.1 ∙ sym sized.0)) (seat.within slot hand),
      subst (λ (cs : List (ℕ × Option g.row.T.Denot)). Allows (BoardRule (kind_of g.T.Held.fits g.T.Held.origin g.T.Held.number g.T.Held.loop_of g.T.Held.mark g.T.Held.fresh g.T.Held.follows g.T.Held.tells) c.args.self.now.table.shared.key) c.args.self.now.table.shared.table_id.slots seat.seat.id (seat.seat.me.0, cs) slot (λ _. 0) (λ _. ended (step c.args.self.now.table.shared.table_id.slots slot 0 0 none) (seat.seat.me.0, cs) 0))
          (sym there)
          (ends (kind_of g.T.Held.fits g.T.Held.origin g.T.Held.number g.T.Held.loop_of g.T.Held.mark g.T.Held.fresh g.T.Held.follows g.T.Held.tells) _ _ _ seat.seat.me.0 slot (rest seat.seat.me.1) (seat.role_is ∙ ap role_number (c.bring.ensures.same.2 ∙ (c.lower.ensures.same.2 ∙ c.requires.main))) hand),
    )

pub invariant_of-seat : goal.invariant_of-seat
invariant_of-seat g c =
    let seat = c.bring.new.self in
    let first = c.bring.ensures.first in
    let d = subst (λ (l : List (ℕ × Option g.row.T.Denot)). distinct l ≡ true) first.2 seat.once in
    let at = λ (q : ℕ). subst (λ (l : List (ℕ × Option g.row.T.Denot)). has q l ≡ has q seat.seat.me.0.hand) first.2 (seat.carries q) in
    record {
      role_is = rw c.store.ensures.2.0 seat.role_is;
      carries = λ q. rw (c.store.ensures.2.0, c.store.ensures.2.1) (loses c.args.slot q first.0 (rest seat.seat.me.1) seat.seat.me.0.hand d (at q));
      once = rw c.store.ensures.2.1 (distinct_rest c.args.slot first.0 (rest seat.seat.me.1) d);
      all_live = λ q lt. rw c.store.ensures.2.0 (has_else c.args.slot q seat.seat.me.0.live (λ e. absurd (let low = c.lower.ensures.low in let kept = c.bring.ensures.same.3 in let n : q ≡ c.args.slot = e in omega arith)) ∙ seat.all_live q lt);
      within = λ q e. rw c.store.ensures.0 (seat.within q (has_lost c.args.slot q seat.seat.me.0.hand (rw c.store.ensures.2.0 at e)));
    }
