use Rattle.std.proofs.Common.{ℕ, List, false, sym, subst}
use Rattle.tow_sink.specs.Feeds.{OpensAroundBytes}
use Rattle.tow_sink.specs.ChunkedFeeding.{chunked, FeedsChunked}
use Rattle.tow_sink.proofs.ChunkedForm.{opens}
use Rattle.tow_sink.proofs.chunked.Chunked.new.Goals as goal

pub returns : goal.returns
returns g c = subst (λ (t : List ℕ). OpensAroundBytes (g.S.StreamSink.feeds c.args.inner) chunked (FeedsChunked (g.S.StreamSink.feeds c.args.inner) t 0 false)) (sym c.empty.ensures) (opens (g.S.StreamSink.feeds c.args.inner))
