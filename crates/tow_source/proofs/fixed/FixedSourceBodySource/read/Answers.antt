use Rattle.std.proofs.Common.{◌≤◌, refl, arith}
use Rattle.tow_model.specs.declared.limits.TheConstants.{MAX_CONTENT_LEN}
use Rattle.tow_source.proofs.FixedAnswers.{says_end, says_not_yet, says_got}
use Rattle.tow_source.proofs.fixed.FixedSourceBodySource.read.Goals as goal

pub returns-then-self-eq0-clause-law : goal.returns-then-self-eq0-clause-law
returns-then-self-eq0-clause-law c =
    let fits : c.args.self.now.len ≤ MAX_CONTENT_LEN = omega (arith, c.if-self-gt-MAX_CONTENT_LEN.false) in
    says_end c.args.self.now c.args.from.now c.args.to.now fits c.if-self-eq0.true

pub returns-then-count-eq0-clause-law : goal.returns-then-count-eq0-clause-law
returns-then-count-eq0-clause-law c =
    let fits : c.args.self.now.len ≤ MAX_CONTENT_LEN = omega (arith, c.if-self-gt-MAX_CONTENT_LEN.false) in
    says_not_yet c.args.self.now c.move_bytes-count.result c.args.from.now c.move_bytes-count.new.from c.args.to.now c.move_bytes-count.new.to
    fits c.if-self-eq0.false c.move_bytes-count.ensures c.if-count-eq0.true c.requires

pub returns-clause-law : goal.returns-clause-law
returns-clause-law c =
    let fits : c.args.self.now.len ≤ MAX_CONTENT_LEN = omega (arith, c.if-self-gt-MAX_CONTENT_LEN.false) in
    says_got c.args.self.now _ c.move_bytes-count.result c.args.from.now c.move_bytes-count.new.from c.args.to.now c.move_bytes-count.new.to
    fits c.if-self-eq0.false c.move_bytes-count.ensures c.if-count-eq0.false refl (omega (arith, c.move_bytes-count.ensures.all))
