-- What a read does to an inbox and its source.
use Rattle.std.specs.Prelude.{◌≡◌, ℕ, ◌<◌, List, ◌++◌, length, Option}
use Rattle.tow_link.specs.declared.source.Read.{Read}
use Rattle.tow_link.specs.declared.source.Read.TheVariants.{Got, End, Failed}
use Rattle.tow_link.specs.Data.{Told}
use Rattle.tow_link.specs.Calls.{Moves, IsDrained}

-- the bytes of the inbox gained some, of which there is at least one, and which left the source
pub record Gains (told told' : Option Told) (bytes bytes' : List ℕ) : Type 0 where
  pub gained : List ℕ
  pub some : 0 < length gained
  pub moved : Moves told told' gained
  pub joined : bytes' ≡ bytes ++ gained

-- a read that gave bytes adds them; at the end of the source nothing is left; and where it failed all is as it was
abbrev pub Fills : Option Told → Option Told → Read → List ℕ → List ℕ → Type 0
Fills told told' (Got count) bytes bytes' = Gains told told' bytes bytes'
Fills told told' End bytes bytes' = (told' ≡ told) × IsDrained told × (bytes' ≡ bytes)
Fills told told' Failed bytes bytes' = (told' ≡ told) × (bytes' ≡ bytes)
