-- What a call does between a link and its pipes.
use Rattle.std.specs.Prelude.{◌≡◌, ℕ, ◌-◌, ◌<◌, ◌≤◌, Bool, true, List, [], ◌++◌, length, take, drop}
use Rattle.std.specs.Io.KnownBytes.{append_known}
use Rattle.circular_buffer.specs.Buffer.{Buffer, buffer}
use Rattle.tow_link.specs.Calls.{Moves, IsDrained}
use Rattle.tow_model.specs.declared.limits.TheConstants.{PIPE_LEN}
use Rattle.tow_peer.specs.Links.{LinkData, Stays}
use Rattle.tow_peer.specs.declared.answers.LinkRead.{LinkRead}
use Rattle.tow_peer.specs.declared.answers.LinkRead.TheVariants as reads
use Rattle.tow_peer.specs.declared.answers.LinkWrite.{LinkWrite}
use Rattle.tow_peer.specs.declared.answers.LinkWrite.TheVariants as writes

abbrev pub empty_pipe : Buffer ℕ
empty_pipe = buffer [] PIPE_LEN

abbrev pub room_of : Buffer ℕ → ℕ
room_of pipe = pipe.capacity - length pipe.items

-- so many bytes came over the link, and stand behind those that stood in the pipe
pub record Brings (count : ℕ) (link link' : LinkData) (input input' : Buffer ℕ) : Type 0 where
  pub bytes : List ℕ
  pub len : length bytes ≡ count
  pub some : 0 < count
  pub moved : Moves link.input link'.input bytes
  pub gained : input' ≡ buffer (input.items ++ bytes) input.capacity
  pub peer : link'.peer ≡ link.peer
  pub written : link'.written ≡ link.written

-- the link was read
abbrev pub Fills : LinkRead → LinkData → LinkData → Buffer ℕ → Buffer ℕ → Bool → Bool → Type 0
Fills (reads.Got count) link link' input input' ended ended' = Brings count link link' input input' × (ended' ≡ ended)
Fills reads.NotYet link link' input input' ended ended' = Stays link link' × (input' ≡ input) × (ended' ≡ ended)
Fills reads.End link link' input input' ended ended' =
    Stays link link' × IsDrained link.input × (input' ≡ input) × (ended' ≡ true)
Fills reads.Failed link link' input input' ended ended' = Stays link link' × (input' ≡ input) × (ended' ≡ ended)

-- the link took so many of the first bytes, which left the pipe
pub record Takes (count : ℕ) (link link' : LinkData) (output output' : Buffer ℕ) : Type 0 where
  pub some : 0 < count
  pub within : count ≤ length output.items
  pub written : link'.written ≡ append_known link.written (take count output.items)
  pub left : output' ≡ buffer (drop count output.items) output.capacity
  pub peer : link'.peer ≡ link.peer
  pub input : link'.input ≡ link.input

-- the link was written
abbrev pub Sends : LinkWrite → LinkData → LinkData → Buffer ℕ → Buffer ℕ → Type 0
Sends (writes.Took count) link link' output output' = Takes count link link' output output'
Sends writes.NotYet link link' output output' = Stays link link' × (output' ≡ output)
Sends writes.Failed link link' output output' = Stays link link' × (output' ≡ output)
