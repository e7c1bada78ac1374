use Rattle.std.proofs.Common.{◌≤◌, ◌-◌, length}
use Rattle.tow_sink.specs.Calls.{OnWrite}
use Rattle.tow_sink.specs.Steps.{Goes}
use Rattle.tow_sink.specs.BufferedFeeding.{FeedsBuffered}
use Rattle.tow_sink.proofs.buffered.BufferedStreamSink.write.Given as goal

-- so many bytes were fed
abbrev pub invariant-loop-count : goal.invariant-loop-count
invariant-loop-count g l =
    record {
      within : l.count ≤ length l.from;
      law :
          OnWrite (FeedsBuffered (g.S.StreamSink.feeds l.initial.self.inner) l.initial.self.held l.initial.self.is_handing)
          (FeedsBuffered (g.S.StreamSink.feeds l.self.inner) l.self.held l.self.is_handing)
          (Goes l.from l.count l.initial.pipe l.pipe);
    }

abbrev pub decreases-loop-count : goal.decreases-loop-count
decreases-loop-count g l = length l.from - l.count
