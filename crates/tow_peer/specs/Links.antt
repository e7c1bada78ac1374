-- What contracts see of a link, and what one call does to it.
use Rattle.std.specs.Prelude.{◌≡◌, ℕ, ◌<◌, ◌≤◌, List, take, Option}
use Rattle.std.specs.Io.KnownBytes.{append_known}
use Rattle.tow_link.specs.Data.{Told}
use Rattle.tow_link.specs.Calls.{Moves, IsDrained}
use Rattle.tow_peer.specs.declared.answers.LinkRead.{LinkRead}
use Rattle.tow_peer.specs.declared.answers.LinkRead.TheVariants as reads
use Rattle.tow_peer.specs.declared.answers.LinkWrite.{LinkWrite}
use Rattle.tow_peer.specs.declared.answers.LinkWrite.TheVariants as writes

-- How often a link has failed, and how often a read and a write could give nothing yet. Where it tells: its peer, the bytes that
-- come in with how many of them were read, and the bytes that were written.
pub record LinkData : Type 0 where
  pub faults : ℕ
  pub read_stalls : ℕ
  pub write_stalls : ℕ
  pub peer : Option ℕ
  pub input : Option Told
  pub written : Option (List ℕ)

-- no count has fallen
pub record NeverFall (old new : LinkData) : Type 0 where
  pub faults : old.faults ≤ new.faults
  pub read_stalls : old.read_stalls ≤ new.read_stalls
  pub write_stalls : old.write_stalls ≤ new.write_stalls

-- the counts aside, the link is as it was
pub record Stays (old new : LinkData) : Type 0 where
  pub peer : new.peer ≡ old.peer
  pub input : new.input ≡ old.input
  pub written : new.written ≡ old.written

-- ---- a read

-- a count of bytes is at least 1, and at most the length of the buffer
abbrev pub ReadFits : LinkRead → ℕ → Type 0
ReadFits (reads.Got count) room = (0 < count) × (count ≤ room)
ReadFits reads.NotYet room = Unit {0}
ReadFits reads.End room = Unit {0}
ReadFits reads.Failed room = Unit {0}

-- the first bytes of the buffer were moved from what is left to what was read
pub record Reads (count : ℕ) (buffer : List ℕ) (old new : LinkData) : Type 0 where
  pub input : Moves old.input new.input (take count buffer)
  pub peer : new.peer ≡ old.peer
  pub written : new.written ≡ old.written

-- `Got` moves bytes, `End` comes only where nothing is left, and the others move nothing
abbrev pub ReadMoves : LinkData → LinkData → LinkRead → List ℕ → Type 0
ReadMoves old new (reads.Got count) buffer = Reads count buffer old new
ReadMoves old new reads.NotYet buffer = Stays old new
ReadMoves old new reads.End buffer = Stays old new × IsDrained old.input
ReadMoves old new reads.Failed buffer = Stays old new

-- ---- a write

-- a count of bytes is at least 1, and at most the number of those that were offered
abbrev pub WriteFits : LinkWrite → ℕ → Type 0
WriteFits (writes.Took count) offered = (0 < count) × (count ≤ offered)
WriteFits writes.NotYet offered = Unit {0}
WriteFits writes.Failed offered = Unit {0}

-- the first bytes offered were appended to what was written
pub record Writes (count : ℕ) (bytes : List ℕ) (old new : LinkData) : Type 0 where
  pub written : new.written ≡ append_known old.written (take count bytes)
  pub peer : new.peer ≡ old.peer
  pub input : new.input ≡ old.input

-- `Took` appends bytes, and the others nothing
abbrev pub WriteAppends : LinkData → LinkData → LinkWrite → List ℕ → Type 0
WriteAppends old new (writes.Took count) bytes = Writes count bytes old new
WriteAppends old new writes.NotYet bytes = Stays old new
WriteAppends old new writes.Failed bytes = Stays old new
