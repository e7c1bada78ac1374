use Rattle.std.proofs.Common.{◌≡◌, ◌++◌, drop, map, take}
use Rattle.tow_link.specs.Entries.{entry_at}
use Rattle.tow_link.specs.Counts.{entry_of, raised_at}
use Rattle.tow_link.proofs.key_counts.raise_in.Given as goal

abbrev pub invariant-counts : goal.invariant-counts
invariant-counts l = record {
  same : l.counts ≡ l.initial.counts;
  count : entry_at (map entry_of l.counts) l.key ≡ entry_at (map entry_of (drop l.count-index l.counts)) l.key;
  raised : raised_at (map entry_of l.counts) l.key ≡ map entry_of (take l.count-index l.counts) ++ raised_at (map entry_of (drop l.count-index l.counts)) l.key;
}
