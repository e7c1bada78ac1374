use Rattle.std.proofs.Common.{◌≡◌, drop, map}
use Rattle.tow_link.specs.Entries.{entry_at}
use Rattle.tow_link.specs.Counts.{entry_of}
use Rattle.tow_link.proofs.key_counts.entry_in.Given as goal

abbrev pub invariant-counts : goal.invariant-counts
invariant-counts l = entry_at (map entry_of l.counts) l.key ≡ entry_at (map entry_of (drop l.count-index l.counts)) l.key
