use Rattle.std.proofs.Common.{◌≡◌, ◌<◌, ◌+◌, ◌-◌, ℕ, Some, false, length, drop, sym, ap, subst, ◌∙◌, arith}
use Rattle.tow_model.proofs.Spans.{span_end}
use Rattle.tow_found.proofs.Last.{behind_at, nothing_behind, stands_in}
use Rattle.tow_found.proofs.types.after_last.Goals as goal

pub returns-then-text-from : goal.returns-then-text-from
returns-then-text-from c =
    let some = c.loop-from-test.true in
    let most = c.loop-from.invariant.0 in
    let next : c.loop-from.from - 1 + 1 ≡ c.loop-from.from = omega (arith, some) in
    let within : c.loop-from.from - 1 < length c.args.text.now = omega (arith, some, most) in
    let without = subst (λ (n : ℕ). stands_in c.args.sign (drop n c.args.text.now) ≡ false) (sym next) c.loop-from.invariant.1 in
    ap Some (span_end c.args.text.now c.loop-from.from ∙ ap (λ n. drop n c.args.text.now) (sym next))
    ∙ sym (behind_at c.args.sign c.args.text.now (c.loop-from.from - 1) within c.if-text-from.true without)

pub returns : goal.returns
returns c =
    let most = c.loop-from-test.false in
    let front : c.loop-from.from ≡ 0 = omega (arith, most) in
    let without = subst (λ (n : ℕ). stands_in c.args.sign (drop n c.args.text.now) ≡ false) front c.loop-from.invariant.1 in
    sym (nothing_behind c.args.sign c.args.text.now without)
