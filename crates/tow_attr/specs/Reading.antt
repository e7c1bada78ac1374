-- What is known of a template while its text is read.
use Rattle.std.specs.Prelude.{ℕ, List, [], ◌∷◌, ◌++◌, drop, Result}
use Rattle.std.specs.Result.{result_map_both}
use Rattle.tow_model.specs.declared.attribute.Piece.{Piece}
use Rattle.tow_model.specs.declared.attribute.Piece.TheVariants.{Literal}
use Rattle.tow_language.specs.Templates.{with_piece, template_from}

-- the piece that the bytes are, where there are any
abbrev pub literal_of : List ℕ → List Piece
literal_of [] = []
literal_of (b ∷ bs) = Literal (b ∷ bs) ∷ []

-- bytes that stand for themselves, before pieces
abbrev pub with_literal : List ℕ → List Piece → List Piece
with_literal [] ps = ps
with_literal (b ∷ bs) ps = with_piece (Literal (b ∷ bs)) ps

-- the whole, where these pieces and then these bytes were read and this is what the rest gives
abbrev pub ahead : List Piece → List ℕ → Result (List Piece) ℕ → Result (List Piece) ℕ
ahead pieces bytes rest = result_map_both (λ ps. pieces ++ with_literal bytes ps) (λ place. place) rest

-- the same where bytes alone were read
abbrev pub plain_ahead : List ℕ → Result (List Piece) ℕ → Result (List Piece) ℕ
plain_ahead bytes rest = result_map_both (with_literal bytes) (λ place. place) rest

-- what the text gives from a place on
abbrev pub rest_from : List ℕ → ℕ → Result (List Piece) ℕ
rest_from text at = template_from [] at (drop at text)
