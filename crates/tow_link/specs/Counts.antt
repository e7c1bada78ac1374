-- How often something came, by keys that are texts of bytes.
use Rattle.std.specs.Prelude.{◌≡◌, ◌≢◌, ℕ, ◌≤◌, List, [], ◌∷◌, if◌then◌else◌, bytes_eq, unwrap_or}
use Rattle.tow_link.specs.Data.{raised}
use Rattle.tow_link.specs.Entries.{entry_at}
use Rattle.tow_link.specs.declared.key_counts.KeyCount.{KeyCount}

-- counts of some names, and one number that stands for each other name
pub record Counts : Type 0 where
  pub named : List (List ℕ × ℕ)
  pub others : ℕ

-- each name has a count of its own, if only 0
abbrev pub own_counts : List (List ℕ × ℕ) → Counts
own_counts named = record { named = named; others = 0 }

-- the count of a name
abbrev pub count_at : Counts → List ℕ → ℕ
count_at counts name = unwrap_or (entry_at counts.named name) counts.others

-- The counts that stand for other names alone are as they were. The number for all names without a count of their own
-- has not fallen.
pub record KeepsOthers (old new : Counts) (name : List ℕ) : Type 0 where
  pub named : (other : List ℕ) → other ≢ name → entry_at new.named other ≡ entry_at old.named other
  pub others : old.others ≤ new.others

-- one more for a name, which gets a count of its own where it had none
abbrev pub raised_at : List (List ℕ × ℕ) → List ℕ → List (List ℕ × ℕ)
raised_at [] name = (name, 1) ∷ []
raised_at (entry ∷ rest) name = if bytes_eq entry.0 name then (entry.0, raised entry.1) ∷ rest else entry ∷ raised_at rest name

-- a key and its count
abbrev pub entry_of : KeyCount → List ℕ × ℕ
entry_of count = (count.key.items, count.count)
