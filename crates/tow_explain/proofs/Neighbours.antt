-- The tokens before and behind a token.
use Rattle.std.proofs.Common.{ℕ, suc, ◌≡◌, ◌&&◌, Bool, true, false, List, length, None, Some, refl}
use Rattle.tow_language.specs.declared.token.Token.{Token}
use Rattle.tow_explain.specs.Scripts.{before, is_line_end, past_lines_of}

pub before-none : (tokens : List Token) (past : Bool) (n : ℕ) → n ≡ 0 → before tokens past n ≡ None
before-none tokens past n e = rw e refl

pub before-here : (tokens : List Token) (past : Bool) (m n : ℕ) → n ≡ suc m → (past && is_line_end tokens m) ≡ false → before tokens past n ≡ Some m
before-here tokens past m n e is = rw e (rw is refl)

pub before-past : (tokens : List Token) (past : Bool) (m n : ℕ) → n ≡ suc m → (past && is_line_end tokens m) ≡ true → before tokens past n ≡ before tokens past m
before-past tokens past m n e is = rw e (rw is refl)

pub past-none : (tokens : List Token) (n i : ℕ) → n ≡ 0 → past_lines_of n tokens i ≡ length tokens
past-none tokens n i e = rw e refl

pub past-here : (tokens : List Token) (m n i : ℕ) → n ≡ suc m → is_line_end tokens i ≡ false → past_lines_of n tokens i ≡ i
past-here tokens m n i e is = rw e (rw is refl)

pub past-line : (tokens : List Token) (m n i : ℕ) → n ≡ suc m → is_line_end tokens i ≡ true → past_lines_of n tokens i ≡ past_lines_of m tokens (suc i)
past-line tokens m n i e is = rw e (rw is refl)
