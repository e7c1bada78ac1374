use Rattle.std.proofs.Common.{◌∙◌, ◌≡◌, ◌+◌, ap, arith, true, false, not, ◌==◌, get_or, subst}
use Rattle.tow_lex.specs.Scan.{Leads}
use Rattle.tow_lex.proofs.Runs.{brace_step, open_step, leads_on, test_fails, test_holds}
use Rattle.tow_lex.proofs.word.brace_end.Goals as goal

pub returns-then-text-at-eq125-clause-closed : goal.returns-then-text-at-eq125-clause-closed
returns-then-text-at-eq125-clause-closed c =
    let text = c.args.text.now in let at = c.loop-at.at in let b = get_or text at 0 in
    let line : (b == 10) ≡ false = ap (λ k. k == 10) c.if-text-at-eq125.true in
    let ends : not (b == 125) ≡ false = ap not (test_holds b 125 c.if-text-at-eq125.true) in
    leads_on text true true false c.args.from at (at + 1) (omega arith) c.loop-at.invariant.0
    (subst (λ k. Leads text true at k (at + 1)) ends (brace_step text at c.loop-at-test.true line))

pub loop-at-preserved : goal.loop-at-preserved
loop-at-preserved c =
    let text = c.args.text.now in let at = c.loop-at.at in let b = get_or text at 0 in
    let line = test_fails b 10 c.if-text-at-eq10.false in
    let brace = test_fails b 125 c.if-text-at-eq125.false in (
      leads_on text true true true c.args.from at (at + 1) (omega arith) c.loop-at.invariant.0
          (subst (λ k. Leads text true at k (at + 1)) (ap not brace) (brace_step text at c.loop-at-test.true line)),
      c.loop-at.invariant.1 ∙ open_step text at c.loop-at-test.true line brace,
    )
