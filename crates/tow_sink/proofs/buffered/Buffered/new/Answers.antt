use Rattle.std.proofs.Common.{rules}
use Rattle.tow_sink.proofs.BlockFeeds.{opens}
use Rattle.tow_sink.proofs.buffered.Buffered.new.Goals as goal

pub returns : goal.returns
returns g c = opens (g.S.StreamSink.feeds c.args.inner) c.in_ok-held.held (search rules)
