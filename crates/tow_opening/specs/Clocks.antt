-- The clock of a connection.
use Rattle.std.specs.Prelude.{◌≡◌, ℕ, Option, Some}

-- it tells just these moments, by the connection and the number of the request
abbrev pub IsClockOf : Option (ℕ → ℕ → ℕ) → (ℕ → ℕ → ℕ) → Type 0
IsClockOf table moments = table ≡ Some moments
