use Rattle.std.proofs.Common.{sym, subst, ap, ℕ, ◌<◌, ◌≤◌, ◌+◌, ◌≡◌, ◌∙◌, List, ◌∷◌, Option, Some, true}
use Rattle.std.specs.Prelude.{is_some}
use mathlib.Core.Option.{none}
use Rattle.atomic_table.specs.Table.{Allows, step, rest}
use Rattle.tow_model.specs.declared.account.Role.{Role}
use Rattle.tow_board.specs.declared.owner.To.{To}
use Rattle.tow_board.specs.declared.view.View.{View}
use Rattle.tow_board.specs.Finds.{has, distinct}
use Rattle.tow_board.specs.Owners.{to_at}
use Rattle.tow_board.specs.Rule.{BoardRule, kind_of}
use Rattle.tow_board.specs.Answers.{MayPublish, IsAfterPublish}
use Rattle.tow_board.specs.Steps.{published}
use Rattle.tow_board.proofs.Publishes.{publishes, after_publish, keeps}
use Rattle.tow_board.proofs.Seats.{loses, distinct_rest, has_lost}
use Rattle.tow_board.proofs.Words.{at_code, two_or_more, below_loops}
use Rattle.tow_board.proofs.board.Board.publish.Goals as goal

pub store-requires : goal.store-requires
store-requires g c =
    let sized = c.args.self.now.sized in
    let slot : ℕ = c.args.slot in
    let seat = c.bring.new.self in
    let x = c.requires.value.0 in
    let first = c.bring.ensures.first in
    let is : first.0 ≡ Some x = let z : Some first.0 ≡ Some (Some x) = sym first.1 ∙ c.requires.value.1 in cc in
    let there : seat.seat.me.1 ≡ (slot, Some x) ∷ rest seat.seat.me.1 = first.2 ∙ ap (λ (y : Option g.row.T.Denot). (slot, y) ∷ rest seat.seat.me.1) is in
    let view = c.bring.ensures.same.4 in
    let code = c.code-code.ensures in
    let loops = c.args.self.now.table.shared.key in
    let hand : has slot seat.seat.me.0.hand ≡ true = sym (seat.carries slot) ∙ (ap (λ (o : Option (Option g.row.T.Denot)). is_some o) (c.bring.ensures.others slot ∙ c.requires.value.1)) in (
      c.bring.ensures.same.0 ∙ c.requires.table,
      subst (λ (m : ℕ). slot < m) (ap (λ z. z.slots) (c.bring.ensures.same.0 ∙ c.requires.table) ∙ (sized.1 ∙ sym sized.0)) (seat.within slot hand),
      subst (λ (cs : List (ℕ × Option g.row.T.Denot)). Allows (BoardRule (kind_of g.T.Held.fits g.T.Held.origin g.T.Held.number g.T.Held.loop_of g.T.Held.mark g.T.Held.fresh g.T.Held.follows g.T.Held.tells) loops) c.args.self.now.table.shared.table_id.slots seat.seat.id (seat.seat.me.0, cs) slot (λ _. c.code-code.result) (λ _. published (kind_of g.T.Held.fits g.T.Held.origin g.T.Held.number g.T.Held.loop_of g.T.Held.mark g.T.Held.fresh g.T.Held.follows g.T.Held.tells) (step c.args.self.now.table.shared.table_id.slots slot c.code-code.result 0 none) (seat.seat.me.0, cs) c.code-code.result))
          (sym there)
          (publishes (kind_of g.T.Held.fits g.T.Held.origin g.T.Held.number g.T.Held.loop_of g.T.Held.mark g.T.Held.fresh g.T.Held.follows g.T.Held.tells) loops g.met.T.Held.follows_itself g.met.T.Held.follows_on g.met.T.Held.fresh_tells_none _ _ seat.seat.me.0 slot c.code-code.result x (rest seat.seat.me.1) seat.role seat.role_is hand
          (subst (λ (n : ℕ). 2 ≤ n) (sym code) (two_or_more c.args.to))
          (subst (λ (p : ℕ × ℕ). p.0 < 4 + p.1) (λ i. (sym code i, sym sized.2 i)) (below_loops c.args.to c.args.self.now.loops c.requires.to))
          (subst (λ (p : ℕ × To). g.T.Held.fits p.0 p.1 x) (λ i. (ap (λ (u : View g.row.T-Origin.Denot g.row.T-Mark.Denot). u.loops) (sym view) i, sym (ap to_at code ∙ at_code c.args.to) i)) c.requires.value.2)
          (subst (λ (p : Role × View g.row.T-Origin.Denot g.row.T-Mark.Denot). MayPublish g.T.Held.number g.T.Held.fresh g.T.Held.follows g.T.Held.tells p.0 p.1 slot (g.T.Held.origin x, g.T.Held.mark x)) (λ i. (sym c.bring.ensures.same.2 i, sym view i)) c.requires.value.3)),
    )

pub invariant_of-seat : goal.invariant_of-seat
invariant_of-seat g c =
    let slot : ℕ = c.args.slot in
    let seat = c.bring.new.self in
    let x = c.requires.value.0 in
    let first = c.bring.ensures.first in
    let d = subst (λ (l : List (ℕ × Option g.row.T.Denot)). distinct l ≡ true) first.2 seat.once in
    let at = λ (q : ℕ). subst (λ (l : List (ℕ × Option g.row.T.Denot)). has q l ≡ has q seat.seat.me.0.hand) first.2 (seat.carries q) in
    let is : first.0 ≡ Some x = let z : Some first.0 ≡ Some (Some x) = sym first.1 ∙ c.requires.value.1 in cc in
    let there : seat.seat.me.1 ≡ (slot, Some x) ∷ rest seat.seat.me.1 = first.2 ∙ ap (λ (y : Option g.row.T.Denot). (slot, y) ∷ rest seat.seat.me.1) is in
    let may = subst (λ (p : Role × View g.row.T-Origin.Denot g.row.T-Mark.Denot). MayPublish g.T.Held.number g.T.Held.fresh g.T.Held.follows g.T.Held.tells p.0 p.1 slot (g.T.Held.origin x, g.T.Held.mark x)) (λ i. (sym c.bring.ensures.same.2 i, sym c.bring.ensures.same.4 i)) c.requires.value.3 in
    let after = after_publish (kind_of g.T.Held.fits g.T.Held.origin g.T.Held.number g.T.Held.loop_of g.T.Held.mark g.T.Held.fresh g.T.Held.follows g.T.Held.tells) c.args.self.now.table.shared.key seat.role seat.seat.me.0 c.store.new.seat.me.0 slot x seat.role_is may (c.store.ensures.2.0 x there) in
    let kept = keeps (kind_of g.T.Held.fits g.T.Held.origin g.T.Held.number g.T.Held.loop_of g.T.Held.mark g.T.Held.fresh g.T.Held.follows g.T.Held.tells) c.args.self.now.table.shared.key seat.role seat.seat.me.0 c.store.new.seat.me.0 slot (g.T.Held.origin x, g.T.Held.mark x) after in
    record {
      role_is = kept.0 ∙ seat.role_is;
      carries = λ q. ap (λ (l : List (ℕ × Option g.row.T.Denot)). has q l) c.store.ensures.2.1 ∙ (loses slot q first.0 (rest seat.seat.me.1) seat.seat.me.0.hand d (at q) ∙ sym (ap (λ l. has q l) kept.1));
      once = rw c.store.ensures.2.1 (distinct_rest slot first.0 (rest seat.seat.me.1) d);
      all_live = λ q lt. kept.2 q (seat.all_live q lt);
      within = λ q e. rw c.store.ensures.0 (seat.within q (has_lost slot q seat.seat.me.0.hand (sym (ap (λ l. has q l) kept.1) ∙ e)));
    }

pub returns-clause-view : goal.returns-clause-view
returns-clause-view g c =
    let slot : ℕ = c.args.slot in
    let seat = c.bring.new.self in
    let x = c.requires.value.0 in
    let first = c.bring.ensures.first in
    let is : first.0 ≡ Some x = let z : Some first.0 ≡ Some (Some x) = sym first.1 ∙ c.requires.value.1 in cc in
    let there : seat.seat.me.1 ≡ (slot, Some x) ∷ rest seat.seat.me.1 = first.2 ∙ ap (λ (y : Option g.row.T.Denot). (slot, y) ∷ rest seat.seat.me.1) is in
    let may = subst (λ (p : Role × View g.row.T-Origin.Denot g.row.T-Mark.Denot). MayPublish g.T.Held.number g.T.Held.fresh g.T.Held.follows g.T.Held.tells p.0 p.1 slot (g.T.Held.origin x, g.T.Held.mark x)) (λ i. (sym c.bring.ensures.same.2 i, sym c.bring.ensures.same.4 i)) c.requires.value.3 in
    let after = after_publish (kind_of g.T.Held.fits g.T.Held.origin g.T.Held.number g.T.Held.loop_of g.T.Held.mark g.T.Held.fresh g.T.Held.follows g.T.Held.tells) c.args.self.now.table.shared.key seat.role seat.seat.me.0 c.store.new.seat.me.0 slot x seat.role_is may (c.store.ensures.2.0 x there) in
    (x, c.requires.value.1, subst (λ (p : Role × View g.row.T-Origin.Denot g.row.T-Mark.Denot). IsAfterPublish g.T.Held.number g.T.Held.tells p.0 p.1 slot (g.T.Held.origin x, g.T.Held.mark x) c.store.new.seat.me.0) (λ i. (c.bring.ensures.same.2 i, c.bring.ensures.same.4 i)) after)
