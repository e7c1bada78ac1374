-- What the putting of pieces leaves.
use Rattle.std.specs.Prelude.{◌≡◌, ◌<◌, ℕ, List, [], ◌∷◌, length}
use Rattle.circular_buffer.specs.Buffer.{Buffer}
use Rattle.tow_model.specs.declared.account.Role.{Role}
use Rattle.tow_sending.specs.Pieces.{Own, Part, Piece, room_of, size_of}
use Rattle.tow_sending.specs.declared.sent.Sent.{Sent}
use Rattle.tow_sending.specs.declared.sent.Sent.TheVariants as sent
use Rattle.tow_stages.specs.Stages.{Base}
use Rattle.tow_turns.specs.Roles.{IsLoop}
use Rattle.tow_turns.specs.declared.stage.Answering.{Answering}

-- with another pipe of output
abbrev pub with_output : Buffer ℕ → Base → Base
with_output pipe b = record b { port = record b.port { output = pipe } }

-- all but the pieces that are left
pub record KeepsAnswer (old new : Answering) : Type 0 where
  pub closing : new.closing ≡ old.closing
  pub closes : new.closes ≡ old.closes
  pub drain : new.drain ≡ old.drain

-- the next piece is a file's
abbrev pub IsFileNext : List Piece → Type 0
IsFileNext [] = ⊥
IsFileNext (Own bytes ∷ rest) = ⊥
IsFileNext (Part path at len ∷ rest) = Unit {0}

-- there is no room for the next piece
abbrev pub IsFull : List Piece → Buffer ℕ → Type 0
IsFull [] pipe = ⊥
IsFull (p ∷ rest) pipe = room_of pipe < size_of p

-- Pieces were put, and it is told why no more are.
abbrev pub HasPut : Role → Sent → List Piece → Buffer ℕ → Type 0
HasPut role sent.Piece pieces pipe = IsLoop role × (0 < length pipe.items)
HasPut role sent.Whole pieces pipe = pieces ≡ []
HasPut role sent.NeedWorker pieces pipe = IsLoop role × IsFileNext pieces
HasPut role sent.Full pieces pipe = IsFull pieces pipe
HasPut role sent.FolderFault pieces pipe = Unit {0}
