use Rattle.tow_sink.proofs.FixedCalls.{finishes}
use Rattle.tow_sink.proofs.fixed.FixedStreamSink.finish.Goals as goal

pub returns : goal.returns
returns g c = record { law = finishes _ _ c.args.self.now.left c.finish.result c.args.pipe.now c.finish.new.pipe c.finish.ensures.law }
