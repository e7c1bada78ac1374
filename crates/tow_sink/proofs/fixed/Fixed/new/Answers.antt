use Rattle.tow_sink.proofs.FixedForm.{opens}
use Rattle.tow_sink.proofs.fixed.Fixed.new.Goals as goal

pub returns : goal.returns
returns g c = opens (g.S.StreamSink.feeds c.args.inner) c.args.len
