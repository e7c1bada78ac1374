-- What contracts see of the closing work of an exchange.
use Rattle.std.specs.Prelude.{◌≡◌, ℕ, suc, Bool, false, List, [], ◌∷◌, Option, Some, None}
use Rattle.tow_model.specs.declared.attribute.Piece.{Piece}
use Rattle.tow_model.specs.declared.request.Request.{Request}
use Rattle.tow_model.specs.declared.record.Record.{Record}
use Rattle.tow_model.specs.declared.record.Listener.{Listener}
use Rattle.tow_model.specs.declared.record.Listener.TheVariants.{Leave, Log}
use Rattle.tow_model.specs.Texts.{Text}
use Rattle.tow_semantics.specs.Listeners.{at_number}
use Rattle.tow_semantics.specs.Values.{line_of}
use Rattle.tow_exchange.specs.Completions.{CompletedData}
use Rattle.tow_closing.specs.declared.work.Work.{Work}
use Rattle.tow_closing.specs.declared.work.Work.TheVariants as work

pub record ClosingData : Type 0 where
  pub completed : CompletedData
  -- the lines that are still to be told, the next one first
  pub lines : List Text
  -- there was no memory for the lines
  pub lost : Bool

-- the line that a listener tells, if it tells one
abbrev pub line_told : List (List Piece) → Request → Record → ℕ → Listener → Option Text
line_told formats q x m (Leave limit) = None
line_told formats q x m (Log number) = Some (line_of (at_number number formats) q x m)

-- how many of the listeners tell a line
abbrev pub left_to_tell : List Listener → ℕ
left_to_tell [] = 0
left_to_tell (Leave limit ∷ rest) = left_to_tell rest
left_to_tell (Log number ∷ rest) = suc (left_to_tell rest)

-- the listener has run, and others are left
abbrev pub ran : Listener → ClosingData → ClosingData → Type 0
ran listener old new = old.completed ≡ record new.completed { left = listener ∷ new.completed.left }

-- the line was the next one, unless they are lost
abbrev pub Tells : Option Text → ClosingData → ClosingData → Type 0
Tells None old new = (old.lost ≡ false → ⊥) × (new.lines ≡ old.lines)
Tells (Some line) old new = old.lines ≡ line ∷ new.lines

-- what the next listener did
abbrev pub Does : Work → ClosingData → ClosingData → Type 0
Does (work.Leave limit) old new = ran (Leave limit) old new × (new.lines ≡ old.lines)
Does (work.Tell number line) old new = ran (Log number) old new × Tells line old new
