-- What one call does to a source or a sink.
use Rattle.std.specs.Prelude.{◌≡◌, ℕ, ◌<◌, ◌≤◌, List, [], ◌++◌, take, Option, None, Some}
use Rattle.std.specs.Io.KnownBytes.{append_known}
use Rattle.tow_link.specs.Data.{Told}
use Rattle.tow_link.specs.declared.source.Read.{Read}
use Rattle.tow_link.specs.declared.source.Read.TheVariants.{Got, End, Failed as ReadFailed}
use Rattle.tow_link.specs.declared.sink.Write.{Write}
use Rattle.tow_link.specs.declared.sink.Write.TheVariants.{Took, Failed as WriteFailed}

-- where the source tells: these bytes moved from the front of what is left to the end of what was read
abbrev pub Moves : Option Told → Option Told → List ℕ → Type 0
Moves None None bytes = Unit {0}
Moves None (Some new) bytes = ⊥
Moves (Some old) None bytes = ⊥
Moves (Some old) (Some new) bytes = (old.left ≡ bytes ++ new.left) × (new.read ≡ old.read ++ bytes)

-- where the source tells: nothing is left
abbrev pub IsDrained : Option Told → Type 0
IsDrained None = Unit {0}
IsDrained (Some told) = told.left ≡ []

-- a count of bytes is at least 1, and at most the length of the buffer
abbrev pub ReadFits : Read → ℕ → Type 0
ReadFits (Got count) room = (0 < count) × (count ≤ room)
ReadFits End room = Unit {0}
ReadFits ReadFailed room = Unit {0}

-- `Got(count)` moves the first bytes of the buffer, `End` comes only where nothing is left, and `Failed` moves nothing
abbrev pub ReadMoves : Option Told → Option Told → Read → List ℕ → Type 0
ReadMoves old new (Got count) buffer = Moves old new (take count buffer)
ReadMoves old new End buffer = (new ≡ old) × IsDrained old
ReadMoves old new ReadFailed buffer = new ≡ old

-- a count of bytes is at least 1, and at most the number of those that were offered
abbrev pub WriteFits : Write → ℕ → Type 0
WriteFits (Took count) offered = (0 < count) × (count ≤ offered)
WriteFits WriteFailed offered = Unit {0}

-- `Took(count)` appends the first bytes offered, and `Failed` nothing
abbrev pub WriteAppends : Option (List ℕ) → Option (List ℕ) → Write → List ℕ → Type 0
WriteAppends old new (Took count) bytes = new ≡ append_known old (take count bytes)
WriteAppends old new WriteFailed bytes = new ≡ old
