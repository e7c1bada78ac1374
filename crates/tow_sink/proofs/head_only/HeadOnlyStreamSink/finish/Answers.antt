use Rattle.tow_sink.proofs.HeadOnlyCalls.{finishes}
use Rattle.tow_sink.proofs.head_only.HeadOnlyStreamSink.finish.Goals as goal

pub returns : goal.returns
returns g c = record { law = finishes (g.S.StreamSink.feeds c.args.self.now.inner) c.args._pipe.now }
