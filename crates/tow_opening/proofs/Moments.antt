-- The moment of the next request.
use Rattle.std.proofs.Common.{◌≡◌, ◌<◌, ◌≤◌, ◌+◌, ◌-◌, ◌^◌, ℕ, suc, min, Option, ap, subst, ◌∙◌, arith, lit<}
use Rattle.std.specs.Prelude.{IfSome}
use Rattle.tow_model.specs.declared.limits.TheConstants.{MAX_REQUESTS}
use Rattle.tow_progress.specs.Progress.{Progress}
use Rattle.tow_states.specs.Known.{Setting, moment_of}
use Rattle.tow_stages.specs.Stages.{Base}
use Rattle.tow_opening.specs.Clocks.{IsClockOf}

-- what the clock told is in its table
pub clock_told : (table : Option (ℕ → ℕ → ℕ)) (moments : ℕ → ℕ → ℕ) (k j m : ℕ) → IsClockOf table moments
    → IfSome table (λ seconds. m ≡ seconds k j) → m ≡ moments k j
clock_told table moments k j m is = subst (λ (x : Option (ℕ → ℕ → ℕ)). IfSome x (λ seconds. m ≡ seconds k j)) is

-- a connection has few requests, so that their count goes on by one
pub counts_on : (number begun request : ℕ) → number ≡ min (begun + 1) (2 ^ 32 - 1) → suc begun ≡ request → request ≤ MAX_REQUESTS
    → number ≡ suc begun
counts_on number begun request is next few =
    let small : MAX_REQUESTS < 2 ^ 32 - 1 = lit< tt in
    omega (arith, is, next, few, small)

-- told for the request of this number, it is that of the definitions
pub told_for_next : (s : Setting) (b : Base) (c : Progress) (m number : ℕ) → b.number ≡ c.number → suc b.begun ≡ c.request
    → number ≡ suc b.begun → m ≡ s.moments b.number number → m ≡ moment_of s c
told_for_next s b c m number same begun on told =
    told ∙ ap (λ (j : ℕ). s.moments b.number j) (on ∙ begun) ∙ ap (λ (k : ℕ). s.moments k c.request) same
