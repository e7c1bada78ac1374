use Rattle.std.proofs.Common.{◌≡◌, ◌-◌, ◌≤◌, [], length, take}
use Rattle.tow_source.specs.ChunkedReading.{Runs, given_by}
use Rattle.tow_source.proofs.chunked.ChunkedSource.step_over.Given as goal

abbrev pub invariant-loop-count : goal.invariant-loop-count
invariant-loop-count l =
    record {
      within : l.count ≤ length l.bytes;
      runs : Runs l.fn.self (take l.count l.bytes) l.self;
      nothing : given_by l.fn.self (take l.count l.bytes) ≡ [];
    }

abbrev pub decreases-loop-count : goal.decreases-loop-count
decreases-loop-count l = length l.bytes - l.count
