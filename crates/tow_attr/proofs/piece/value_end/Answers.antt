use Rattle.std.proofs.Common.{◌≡◌, ◌==◌, ◌+◌, ◌∙◌, arith, rules, false, get_or, length}
use Rattle.tow_attr.proofs.Places.{two_whole, braced_whole, inside_step, inside_none, ends_open}
use Rattle.tow_attr.proofs.piece.value_end.Goals as goal

pub returns-then-text-from-ne123-clause-whole : goal.returns-then-text-from-ne123-clause-whole
returns-then-text-from-ne123-clause-whole c =
    let other : (get_or c.args.text.now (c.args.from + 1) 0 == 123) ≡ false = search rules in
    two_whole c.args.text.now c.args.from (omega arith) c.requires.value other

pub returns-then-text-at-eq125-clause-whole : goal.returns-then-text-at-eq125-clause-whole
returns-then-text-at-eq125-clause-whole c =
    let text = c.args.text.now in let at = c.loop-at.at in
    braced_whole text c.args.from at (omega arith) (omega arith) c.requires.value c.if-text-from-ne123.false c.if-text-at-eq125.true
    (c.loop-at.invariant at (omega arith) (omega arith) ∙ inside_none text at at (omega arith))

pub loop-at-preserved : goal.loop-at-preserved
loop-at-preserved c to le short =
    c.loop-at.invariant to (omega arith) short ∙ inside_step c.args.text.now c.loop-at.at to (omega arith) (omega arith) c.if-text-at-eq125.false

pub returns-clause-open : goal.returns-clause-open
returns-clause-open c =
    let text = c.args.text.now in
    ends_open text c.args.from (omega arith) c.requires.value c.if-text-from-ne123.false
    (c.loop-at.invariant (length text) (omega arith) (omega arith) ∙ inside_none text c.loop-at.at (length text) c.loop-at-test.false)
