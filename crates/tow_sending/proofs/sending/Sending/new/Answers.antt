use Rattle.std.proofs.Common.{ℕ, List, ◌++◌, ◌∙◌, ap₂}
use Rattle.tow_sending.specs.Pieces.{Piece, plain_pieces}
use Rattle.tow_sending.proofs.sending.Sending.new.Goals as goal

pub returns : goal.returns
returns c =
    ap₂ (λ (h : List ℕ) (ps : List Piece). plain_pieces h ++ ps) (c.new-head.ensures ∙ c.in_ok-head.ensures) c.in_ok-body.ensures
