-- What a source of chunked content has read: the steps over the bytes that it took.
use Rattle.std.specs.Prelude.{◌≡◌, ℕ, ◌<◌, ◌≤◌, true, false, List, [], ◌∷◌, ◌++◌, length, take, drop}
use Rattle.circular_buffer.specs.Buffer.{Buffer, buffer}
use Rattle.tow_model.specs.declared.limits.TheConstants.{MAX_CONTENT_LEN}
use Rattle.tow_model.specs.declared.request.Framing.TheVariants.{Chunked}
use Rattle.tow_source.specs.declared.place.Place.TheVariants.{SizeStart}
use Rattle.tow_source.specs.declared.chunked.ChunkedSource.{ChunkedSource}
use Rattle.tow_source.specs.Places.{place_after, room_after, goes_on, is_framing, given_at}
use Rattle.tow_source.specs.Readings.{Reading}

-- no byte was taken
abbrev pub at_start : ChunkedSource
at_start = record { place = SizeStart; room = MAX_CONTENT_LEN }

abbrev pub step_of : ChunkedSource → ℕ → ChunkedSource
step_of s byte = record { place = place_after s.room s.place byte; room = room_after s.room s.place }

-- from the one place to the other over these bytes, each taken while the content goes on
abbrev pub Runs : ChunkedSource → List ℕ → ChunkedSource → Type 0
Runs s [] end = s ≡ end
Runs s (byte ∷ bytes) end = (goes_on s.place ≡ true) × Runs (step_of s byte) bytes end

-- the content's own bytes among these
abbrev pub given_by : ChunkedSource → List ℕ → List ℕ
given_by s [] = []
given_by s (byte ∷ bytes) = given_at s.place byte ++ given_by (step_of s byte) bytes

-- what was taken leads here, and its content was given
pub record ReadsChunked (source : ChunkedSource) (r : Reading) : Type 0 where
  pub framing : r.framing ≡ Chunked
  pub runs : Runs at_start r.taken source
  pub given : r.given ≡ given_by at_start r.taken

-- so many bytes around the content were taken: all, or those up to where it ends or has bytes of its own
pub record Frames (count : ℕ) (bytes : List ℕ) (old new : ChunkedSource) : Type 0 where
  pub within : count ≤ length bytes
  pub runs : Runs old (take count bytes) new
  pub nothing : given_by old (take count bytes) ≡ []
  pub stops : count < length bytes → is_framing new.place ≡ false

-- so it was done with the front of a pipe
pub record FramesPipe (piped piped' : Buffer ℕ) (old new : ChunkedSource) : Type 0 where
  pub count : ℕ
  pub frames : Frames count piped.items old new
  pub left : piped' ≡ buffer (drop count piped.items) piped.capacity
