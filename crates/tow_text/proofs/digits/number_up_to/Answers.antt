use Rattle.tow_text.proofs.Numbers.{value_more, fold_of_more}
use Rattle.tow_text.proofs.digits.number_up_to.Goals as goal

pub loop-digit-preserved : goal.loop-digit-preserved
loop-digit-preserved c =
    let l = c.loop-digit in
    let next = c.with_digit-number in
    record {
      value = value_more c.args.digits.now l.digit-index l.number next.result c.args.most c.loop-digit-test.true l.invariant.value next.ensures.value;
      folded = fold_of_more c.args.digits.now l.digit-index l.number next.result c.args.most c.loop-digit-test.true l.invariant.folded next.ensures.folded;
    }
