use Rattle.tow_source.proofs.ChunkedAnswers.{says_end, says_bad, says_too_long, says_got, waits_for_framing, waits_for_data, framing_else}
use Rattle.tow_source.proofs.chunked.ChunkedSourceBodySource.read.Goals as goal

pub returns-then-count-eq0-clause-law : goal.returns-then-count-eq0-clause-law
returns-then-count-eq0-clause-law c =
    waits_for_data c.args.self.now c.take_framing.new.self c.in-Data.left c.move_bytes-count.result c.args.from.now c.take_framing.new.from c.move_bytes-count.new.from
    c.args.to.now c.move_bytes-count.new.to c.take_framing.ensures c.in-Data.is c.move_bytes-count.ensures c.if-count-eq0.true c.requires

pub returns-in-Ended-clause-law : goal.returns-in-Ended-clause-law
returns-in-Ended-clause-law c =
    says_end c.args.self.now c.take_framing.new.self c.args.from.now c.take_framing.new.from c.args.to.now c.take_framing.ensures c.in-Ended.is

pub returns-in-Bad-clause-law : goal.returns-in-Bad-clause-law
returns-in-Bad-clause-law c =
    says_bad c.args.self.now c.take_framing.new.self c.args.from.now c.take_framing.new.from c.args.to.now c.take_framing.ensures c.in-Bad.is

pub returns-in-TooLong-clause-law : goal.returns-in-TooLong-clause-law
returns-in-TooLong-clause-law c =
    says_too_long c.args.self.now c.take_framing.new.self c.args.from.now c.take_framing.new.from c.args.to.now c.take_framing.ensures c.in-TooLong.is

pub returns-else-count-eq0-clause-law : goal.returns-else-count-eq0-clause-law
returns-else-count-eq0-clause-law c =
    says_got c.args.self.now c.take_framing.new.self c.in-Data.left c.move_bytes-count.result c.args.from.now c.take_framing.new.from c.move_bytes-count.new.from
    c.args.to.now c.move_bytes-count.new.to c.take_framing.ensures c.in-Data.is c.move_bytes-count.ensures c.if-count-eq0.false

pub returns-in_default-clause-law : goal.returns-in_default-clause-law
returns-in_default-clause-law c =
    waits_for_framing c.args.self.now c.take_framing.new.self c.args.from.now c.take_framing.new.from c.args.to.now c.take_framing.ensures
    (framing_else c.take_framing.new.self.place c.in_default.not-Data c.in_default.not-Ended c.in_default.not-Bad c.in_default.not-TooLong)
