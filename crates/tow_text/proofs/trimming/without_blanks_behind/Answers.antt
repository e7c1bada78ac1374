use Rattle.std.proofs.Common.{◌≡◌, ◌-◌, ℕ, suc, take, drop, true, sym, ap, subst, ◌∙◌, arith}
use Rattle.tow_model.specs.Texts.{is_blank}
use Rattle.tow_text.proofs.Blanks.{ends_at, ends_nowhere}
use Rattle.tow_text.proofs.trimming.without_blanks_behind.Goals as goal

pub returns-then-not-is_blank : goal.returns-then-not-is_blank
returns-then-not-is_blank c =
    let text = c.args.text.now in let end = c.loop-end.end in
    let e : suc (end - 1) ≡ end = omega arith in
    ap (λ n. take n text) (sym e)
    ∙ ends_at text (end - 1) (omega arith) (sym c.is_blank.ensures ∙ c.if-not-is_blank.true)
    (subst (λ (n : ℕ). is_blank (drop n text) ≡ true) (sym e) c.loop-end.invariant.behind)

pub returns : goal.returns
returns c =
    let text = c.args.text.now in let e : c.loop-end.end ≡ 0 = omega arith in
    ends_nowhere text (subst (λ (n : ℕ). is_blank (drop n text) ≡ true) e c.loop-end.invariant.behind)
