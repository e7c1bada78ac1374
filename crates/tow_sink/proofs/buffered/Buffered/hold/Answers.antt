use Rattle.std.proofs.Common.{◌==◌, refl}
use Rattle.tow_sink.proofs.BufferedCalls.{on_of, off_of}
use Rattle.tow_sink.proofs.BufferedWrites.{holds_none, holds_more}
use Rattle.tow_sink.proofs.buffered.Buffered.hold.Goals as goal

pub returns-then-not-hand_on-clause-law : goal.returns-then-not-hand_on-clause-law
returns-then-not-hand_on-clause-law g c =
    holds_none _ _ c.args.self.now.is_handing c.hand_on.new.self.is_handing c.args.self.now.held c.hand_on.new.self.held
    c.args.pipe.now c.hand_on.new.pipe c.args.from.now c.hand_on.ensures.handed (on_of _ c.if-not-hand_on.ensures.answer)

pub returns-clause-law : goal.returns-clause-law
returns-clause-law g c =
    holds_more _ _ c.args.self.now.is_handing c.hand_on.new.self.is_handing (c.room.result == 0) c.args.self.now.held c.hand_on.new.self.held c.put-count.new.self
    c.args.pipe.now c.hand_on.new.pipe c.put-count.result c.room.result c.args.from.now
    c.hand_on.ensures.handed (off_of _ c.if-not-hand_on.ensures.answer) c.put-count.ensures.count c.put-count.ensures.after c.room.ensures refl
