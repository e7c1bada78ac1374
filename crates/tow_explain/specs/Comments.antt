-- What was to be a comment.
use Rattle.std.specs.Prelude.{ℕ, Bool, ◌&&◌, ◌||◌, ◌==◌, nat_lt, List, length, slice_index}

-- the byte stands at the place
abbrev pub has_at : List ℕ → ℕ → ℕ → Bool
has_at bytes i b = nat_lt i (length bytes) && (slice_index bytes i == b)

-- the bytes begin with `#`, `//` or `/*`
abbrev pub begins_comment : List ℕ → Bool
begins_comment bytes = has_at bytes 0 35 || (has_at bytes 0 47 && (has_at bytes 1 47 || has_at bytes 1 42))
