-- Where a file under way stands, as the code has it.
use Rattle.std.specs.Prelude.{◌≡◌, ℕ, ◌-◌, ◌≤◌, min, true, List, length}
use Rattle.tow_folder.specs.Folders.{is_askable}
use Rattle.tow_model.specs.declared.limits.TheConstants.{BLOCK_LEN}
use Rattle.tow_model.specs.Texts.{Text}
use Rattle.tow_sending.specs.Pieces.{Piece, file_pieces}

-- a file, how many of its bytes were put, and how many are to be put in all
pub record Place : Type 0 where
  pub path : Text
  pub at : ℕ
  pub len : ℕ

-- the pieces that are left
abbrev pub pieces_at : Place → List Piece
pieces_at f = file_pieces f.path f.at f.len

-- the folder can be asked for the path, the place is in the file, and the next piece fits the buffer
pub record IsPlace (f : Place) (piece : List ℕ) : Type 0 where
  pub askable : is_askable f.path ≡ true
  pub within : f.at ≤ f.len
  pub fits : min BLOCK_LEN (f.len - f.at) ≤ length piece
