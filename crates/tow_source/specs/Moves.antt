-- Bytes that move from a pipe into a slice.
use Rattle.std.specs.Prelude.{◌≡◌, ℕ, List, length, take, drop, min}
use Rattle.circular_buffer.specs.Buffer.{Buffer, buffer}

-- the first so many bytes of the pipe stand in the slice, which is as long as it was
pub record Moves (count most : ℕ) (piped piped' : Buffer ℕ) (to to' : List ℕ) : Type 0 where
  pub all : count ≡ min most (min (length piped.items) (length to))
  pub left : piped' ≡ buffer (drop count piped.items) piped.capacity
  pub moved : take count to' ≡ take count piped.items
  pub same_length : length to' ≡ length to
