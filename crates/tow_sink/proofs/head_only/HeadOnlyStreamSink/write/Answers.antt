use Rattle.tow_sink.proofs.HeadOnlyCalls.{writes}
use Rattle.tow_sink.proofs.head_only.HeadOnlyStreamSink.write.Goals as goal

pub returns-clause-law : goal.returns-clause-law
returns-clause-law g c = writes (g.S.StreamSink.feeds c.args.self.now.inner) c.args.from.now c.args._pipe.now
