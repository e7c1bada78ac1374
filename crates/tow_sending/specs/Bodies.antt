-- The content that is left of an answer, as the code has it.
use Rattle.std.specs.Prelude.{List, ℕ, [], ◌++◌}
use Rattle.tow_sending.specs.declared.body.Body.{Body}
use Rattle.tow_sending.specs.declared.body.Body.TheVariants as rest
use Rattle.tow_sending.specs.Pieces.{Piece, plain_pieces, chunk_pieces}
use Rattle.tow_sending.specs.Places.{pieces_at}

-- its pieces
abbrev pub body_pieces : Body → List Piece
body_pieces rest.Nothing = []
body_pieces (rest.Plain bytes) = plain_pieces bytes
body_pieces (rest.Chunks bytes) = chunk_pieces bytes
body_pieces (rest.File place) = pieces_at place

-- the pieces of what is left of a head, and of this content
abbrev pub pieces_in : List ℕ → Body → List Piece
pieces_in head body = plain_pieces head ++ body_pieces body
