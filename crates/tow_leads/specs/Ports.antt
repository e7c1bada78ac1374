-- What a call of a port leads to: how far a connection has come stands in its pipes and in what its link tells.
use Rattle.std.specs.Prelude.{◌≡◌, ℕ, Bool, true, List, [], ◌++◌, Some}
use Rattle.circular_buffer.specs.Buffer.{Buffer, buffer}
use Rattle.tow_link.specs.Data.{Told}
use Rattle.tow_peer.specs.Links.{LinkData}
use Rattle.tow_peer.specs.declared.answers.LinkRead.{LinkRead}
use Rattle.tow_peer.specs.declared.answers.LinkWrite.{LinkWrite}
use Rattle.tow_port.specs.Ports.{Fills, Sends}
use Rattle.tow_progress.specs.Progress.{Progress}
use Rattle.tow_progress.specs.Steps.{read_in, taken, with_piece, written_out}

-- what a port shows: its link, its two pipes, and that nothing more comes
pub record PortData : Type 0 where
  pub link : LinkData
  pub input : Buffer ℕ
  pub ended : Bool
  pub output : Buffer ℕ

-- A connection whose link tells has come so far.
pub record IsPortOf (p : PortData) (c : Progress) : Type 0 where
  pub peer : p.link.peer ≡ Some c.peer
  -- what was read of the link, and what it has left
  pub told : Told
  pub tells : p.link.input ≡ Some told
  pub left : told.left ≡ c.left
  pub piped_in : p.input.items ≡ c.piped_in
  pub over : p.ended ≡ true → c.left ≡ []
  pub piped_out : p.output.items ≡ c.piped_out
  pub written : p.link.written ≡ Some c.written

-- ---- steps

-- Bytes came into the pipe of input; none, if the link gave nothing.
pub record IsRead (p : PortData) (c : Progress) : Type 0 where
  pub bytes : List ℕ
  pub left : List ℕ
  pub split : c.left ≡ bytes ++ left
  pub port : IsPortOf p (read_in bytes left c)

-- The link took bytes from the pipe of output; none, if it took nothing.
pub record IsWritten (p : PortData) (c : Progress) : Type 0 where
  pub bytes : List ℕ
  pub piped : List ℕ
  pub split : c.piped_out ≡ bytes ++ piped
  pub port : IsPortOf p (written_out bytes piped c)

-- the link was read
abbrev pub as_read : LinkData → Buffer ℕ → Bool → PortData → PortData
as_read link input ended p = record p { link = link; input = input; ended = ended }

-- the link was written
abbrev pub as_written : LinkData → Buffer ℕ → PortData → PortData
as_written link output p = record p { link = link; output = output }

-- these bytes were put
abbrev pub as_put : List ℕ → PortData → PortData
as_put piece p = record p { output = buffer (p.output.items ++ piece) p.output.capacity }

-- Each call of a port leads on.
pub record PortLeadsOn (p : PortData) (c : Progress) : Type 0 where
  pub fills : (answer : LinkRead) (link : LinkData) (input : Buffer ℕ) (ended : Bool)
      → Fills answer p.link link p.input input p.ended ended → IsRead (as_read link input ended p) c
  pub sends : (answer : LinkWrite) (link : LinkData) (output : Buffer ℕ)
      → Sends answer p.link link p.output output → IsWritten (as_written link output p) c
  pub puts : (piece : List ℕ) → IsPortOf (as_put piece p) (with_piece piece c)
  pub takes : (bytes : List ℕ) (input : Buffer ℕ) → p.input.items ≡ bytes ++ input.items
      → IsPortOf (record p { input = input }) (taken bytes input.items c)

-- ---- law

abbrev pub PortsLeadOn : Type 0
PortsLeadOn = (p : PortData) (c : Progress) → IsPortOf p c → PortLeadsOn p c
