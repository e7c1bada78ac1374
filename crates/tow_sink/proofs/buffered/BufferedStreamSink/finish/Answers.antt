use Rattle.std.proofs.Common.{sym, ◌∙◌, arith}
use Rattle.tow_sink.proofs.BufferedCalls.{on_of, off_of}
use Rattle.tow_sink.proofs.BufferedEnds.{stays_full, finishes_at_once, finishes_after}
use Rattle.tow_sink.proofs.buffered.BufferedStreamSink.finish.Goals as goal

pub returns-then-len-eq0 : goal.returns-then-len-eq0
returns-then-len-eq0 g c = record {
  law = finishes_at_once _ _ c.args.self.now.is_handing c.args.self.now.held c.finish.result c.args.pipe.now c.finish.new.pipe
      (sym c.len.ensures ∙ c.if-len-eq0.true) c.finish.ensures.law;
}

pub returns-then-not-hand_on : goal.returns-then-not-hand_on
returns-then-not-hand_on g c = record {
  law = stays_full _ _ c.args.self.now.is_handing c.hand_on.new.self.is_handing c.args.self.now.held c.hand_on.new.self.held c.args.pipe.now c.hand_on.new.pipe
      c.hand_on.ensures.handed (omega (arith, c.len.ensures, c.if-len-eq0.false)) (on_of _ c.if-not-hand_on.ensures.answer);
}

pub returns : goal.returns
returns g c = record {
  law = finishes_after _ _ _ c.args.self.now.is_handing c.hand_on.new.self.is_handing c.args.self.now.held c.hand_on.new.self.held
      c.finish-2.result c.args.pipe.now c.hand_on.new.pipe c.finish-2.new.pipe
      c.hand_on.ensures.handed (omega (arith, c.len.ensures, c.if-len-eq0.false)) (off_of _ c.if-not-hand_on.ensures.answer) c.finish-2.ensures.law;
}
