-- Lists of names, each with a value.
use Rattle.std.specs.Prelude.{ℕ, List, [], ◌∷◌, Option, None, Some, if◌then◌else◌, bytes_eq}

-- the value of a name, that of its first entry
abbrev pub entry_at : {V : Type 0} → List (List ℕ × V) → List ℕ → Option V
entry_at [] name = None
entry_at (entry ∷ rest) name = if bytes_eq entry.0 name then Some entry.1 else entry_at rest name
