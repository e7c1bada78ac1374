use Rattle.tow_sink.proofs.PlainCalls.{finishes}
use Rattle.tow_sink.proofs.plain.PlainStreamSink.finish.Goals as goal

pub returns : goal.returns
returns c = record { law = finishes c.args.self.now c.args._pipe.now }
