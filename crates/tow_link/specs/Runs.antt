-- What several calls do to a source or a sink.
use Rattle.std.specs.Prelude.{◌≡◌, ℕ, ◌+◌, ◌≤◌, List, length, take, Option}
use Rattle.std.specs.Io.KnownBytes.{append_known}
use Rattle.tow_link.specs.Data.{Told}
use Rattle.tow_link.specs.Calls.{Moves, IsDrained}
use Rattle.tow_link.specs.declared.reading.Whole.{Whole}
use Rattle.tow_link.specs.declared.reading.Whole.TheVariants.{Bytes, TooLong, Failed, NoMemory}

-- the front of these bytes was appended, where the sink tells
abbrev pub AppendsPart : Option (List ℕ) → Option (List ℕ) → List ℕ → Type 0
AppendsPart old new bytes = (count : ℕ) × (count ≤ length bytes) × (new ≡ append_known old (take count bytes))

-- some bytes were read, and no more than this many
pub record MovesAtMost (old new : Option Told) (most : ℕ) : Type 0 where
  pub bytes : List ℕ
  pub moved : Moves old new bytes
  pub within : length bytes ≤ most

-- The answer is all that was left, which is within the limit, or its front of one byte past the limit. Where the source
-- fails, or there is no memory, some bytes were read, at most one past the limit.
abbrev pub ReadsWhole : Option Told → Option Told → ℕ → Whole → Type 0
ReadsWhole old new most (Bytes read) = Moves old new read.items × IsDrained new × (length read.items ≤ most)
ReadsWhole old new most (TooLong read) = Moves old new read.items × (length read.items ≡ most + 1)
ReadsWhole old new most Failed = MovesAtMost old new (most + 1)
ReadsWhole old new most NoMemory = MovesAtMost old new (most + 1)
