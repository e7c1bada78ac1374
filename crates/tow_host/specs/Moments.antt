-- The moments of requests, in seconds since 1970.
use Rattle.std.specs.Prelude.{ℕ, ◌==◌, ◌&&◌, List, [], ◌∷◌, Option, None, Some, if◌then◌else◌}
use Rattle.tow_host.specs.declared.memory_clock.MomentAt.{MomentAt}

-- the seconds of some requests, and one second for all others
pub record MomentsData : Type 0 where
  pub moments : List MomentAt
  pub others : ℕ

-- the second of a request: that of its first moment in the list, or the one for all others
abbrev pub second_of : List MomentAt → ℕ → ℕ → ℕ → ℕ
second_of [] others k j = others
second_of (moment ∷ rest) others k j = if (moment.k == k) && (moment.j == j) then moment.second else second_of rest others k j

-- the second of a request, as these moments tell it
abbrev pub second_at : MomentsData → ℕ → ℕ → ℕ
second_at moments k j = second_of moments.moments moments.others k j

-- what a clock tells: one moment everywhere, where one is given, and else the moments of the host
abbrev pub clock_table : Option (ℕ → ℕ → ℕ) → Option ℕ → Option (ℕ → ℕ → ℕ)
clock_table moments None = moments
clock_table moments (Some second) = Some (λ k j. second)
