use Rattle.tow_sink.proofs.PlainCalls.{writes}
use Rattle.tow_sink.proofs.plain.PlainStreamSink.write.Goals as goal

pub returns-clause-law : goal.returns-clause-law
returns-clause-law c = writes c.args.self.now c.put.result c.args.from.now c.args.pipe.now c.put.new.self c.put.ensures.count c.put.ensures.after
