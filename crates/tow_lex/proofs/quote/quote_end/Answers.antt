use Rattle.std.proofs.Common.{◌≡◌, ◌∙◌, length, arith, true, not, ◌||◌, ◌==◌, get_or}
use Rattle.tow_lex.proofs.Runs.{quote_step, quote_closes, quote_open, is_escaped_byte, is_other_byte, test_fails}
use Rattle.tow_lex.proofs.quote.quote_end.Goals as goal
use Rattle.tow_lex.proofs.quote.quote_end.Goals.{else-byte-quote-via-then-byte-quote+else-before-ne92, else-byte-quote-via-else-byte-quote}

pub returns-then-before-ne92-clause-closed : goal.returns-then-before-ne92-clause-closed
returns-then-before-ne92-clause-closed c =
    let i = c.loop-at.invariant c.loop-at.at (omega arith) (omega arith) in
    quote_closes c.args.text.now c.args.from c.loop-at.at c.loop-at.before (omega arith) (omega arith) c.requires.quote c.if-byte-quote.true (test_fails _ _ c.if-before-ne92.true) i.0 i.1

pub loop-at-preserved : goal.loop-at-preserved
loop-at-preserved c to le short =
    let text = c.args.text.now in let at = c.loop-at.at in let q = get_or text c.args.from 0 in
    let i = c.loop-at.invariant to (omega arith) short in
    let test : (not (get_or text at 0 == q) || c.loop-at.before == 92) ≡ true =
    elim c.else-byte-quote.branch [
      | else-byte-quote-via-then-byte-quote+else-before-ne92 w ↦ is_escaped_byte _ q _ w.if-before-ne92.false
      | else-byte-quote-via-else-byte-quote w ↦ is_other_byte _ q _ w.if-byte-quote.false
    ] in
    let s = quote_step text at to q c.loop-at.before (omega arith) (omega arith) test in
    (i.0 ∙ s.0, i.1 ∙ s.1)

pub returns-clause-open : goal.returns-clause-open
returns-clause-open c =
    quote_open c.args.text.now c.args.from c.loop-at.at c.loop-at.before (omega arith) c.loop-at-test.false c.requires.quote
    (c.loop-at.invariant (length c.args.text.now) (omega arith) (omega arith)).0
