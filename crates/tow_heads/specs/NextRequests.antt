-- What an input goes on with.
use Rattle.std.specs.Prelude.{ℕ, ◌<◌, ◌≤◌, List, ◌++◌, length, drop}
use Rattle.tow_message.specs.Stream.{nothing, refused, HasRequest, ReadsStream}
use Rattle.tow_heads.specs.declared.requests.NextRequest.{NextRequest}
use Rattle.tow_heads.specs.declared.requests.NextRequest.TheVariants.{Request, More, Nothing, Refuse, NoMemory}

-- what each answer says of an input of this peer, of which the bytes have come, and which goes on with those that are left
abbrev pub GoesOnWith : ℕ → List ℕ → List ℕ → NextRequest → Type 0
GoesOnWith peer bytes left (Request q used) =
    (0 < used) × (used ≤ length bytes) × HasRequest peer (bytes ++ left) q (drop used bytes ++ left)
GoesOnWith peer bytes left More = Unit {0}
GoesOnWith peer bytes left Nothing = ReadsStream peer (bytes ++ left) nothing
GoesOnWith peer bytes left (Refuse status) = ReadsStream peer (bytes ++ left) (refused status)
GoesOnWith peer bytes left NoMemory = Unit {0}
