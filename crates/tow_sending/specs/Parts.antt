-- How the put of a file's piece ends.
use Rattle.std.specs.Prelude.{◌≡◌, ℕ, true, false, nat_lt, List, [], ◌∷◌, drop, Option}
use Rattle.circular_buffer.specs.Buffer.{Buffer}
use Rattle.tow_semantics.specs.Files.{Files}
use Rattle.tow_sending.specs.declared.sent.PartPut.{PartPut}
use Rattle.tow_sending.specs.declared.sent.PartPut.TheVariants.{Put, NoRoom, Fault}
use Rattle.tow_sending.specs.Pieces.{Piece, size_of, room_of, GainsFirst}

-- the size of the first piece
abbrev pub first_size : List Piece → ℕ
first_size [] = 0
first_size (p ∷ rest) = size_of p

-- the pipe gained the piece, or had less room than the piece takes, or is as it was
abbrev pub PutsPart : Option Files → PartPut → List Piece → Buffer ℕ → Buffer ℕ → Type 0
PutsPart told Put pieces pipe pipe' =
    (nat_lt (room_of pipe) (first_size pieces) ≡ false) × GainsFirst told pieces pipe pipe'
PutsPart told NoRoom pieces pipe pipe' = (nat_lt (room_of pipe) (first_size pieces) ≡ true) × (pipe' ≡ pipe)
PutsPart told Fault pieces pipe pipe' = (nat_lt (room_of pipe) (first_size pieces) ≡ false) × (pipe' ≡ pipe)

-- the pieces that are left after it
abbrev pub left_of_part : PartPut → List Piece → List Piece
left_of_part Put pieces = drop 1 pieces
left_of_part NoRoom pieces = pieces
left_of_part Fault pieces = pieces
