-- Words on lists that the other files share.
use Rattle.std.specs.Prelude.{◌≡◌, ℕ, Bool, List, ◌++◌}
use Rattle.std.specs.Ordering.{nat_cmp, is_le}
use Rattle.std.specs.Cmp.Lexicographic.{slice_cmp}

-- the whole begins with the front
abbrev pub IsPrefix : {X : Type 0} → List X → List X → Type 0
IsPrefix {X} front whole = (rest : List X) × (whole ≡ front ++ rest)

-- the bytes stand before these or are the same
abbrev pub bytes_le : List ℕ → List ℕ → Bool
bytes_le xs ys = is_le (slice_cmp nat_cmp xs ys)
