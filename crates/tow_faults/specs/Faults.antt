-- Counts of faults by numbers, which are those of connections, or of logs.
use Rattle.std.specs.Prelude.{◌≡◌, ◌≢◌, ℕ, ◌+◌, ◌≤◌}

-- How often something has failed: for each number by itself, and beside that for some number that is not known, which counts for
-- every one of them.
pub record NumberedFaults : Type 0 where
  pub own : ℕ → ℕ
  pub shared : ℕ

-- how often it has failed for a number
abbrev pub faults_for : NumberedFaults → ℕ → ℕ
faults_for faults number = faults.own number + faults.shared

-- what is counted for other numbers alone is as it was, and what counts for every number has not fallen
pub record KeepsOtherFaults (old new : NumberedFaults) (number : ℕ) : Type 0 where
  pub own : (other : ℕ) → other ≢ number → new.own other ≡ old.own other
  pub shared : old.shared ≤ new.shared
