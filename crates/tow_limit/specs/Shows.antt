-- What a count knows of the history of its limit.
use Rattle.std.specs.Prelude.{ℕ, ◌+◌, ◌≡◌, nat_lt, if◌then◌else◌, List, [], ◌∷◌, length}
use Rattle.tow_model.specs.declared.account.What.{What}
use Rattle.tow_model.specs.declared.account.What.TheVariants.{Enter, Leave}
use Rattle.tow_history.specs.declared.entry.Entry.{Entry}
use Rattle.tow_model.specs.declared.account.Verdict.{Verdict}
use Rattle.tow_model.specs.declared.account.Verdict.TheVariants.{Admitted, Refused}
use Rattle.tow_history.specs.Legal.{LimitState, after_entry, nobody, legal, state_after}

-- how many are admitted at a time, and how many are inside
pub record Places : Type 0 where
  pub most : ℕ
  pub inside : ℕ

-- what the count answers at a point of the history
abbrev pub verdict_at : (most : ℕ) → LimitState → Verdict
verdict_at most s = if nat_lt (length s.inside) most then Admitted else Refused

abbrev pub is_exact : (most : ℕ) → LimitState → What → Type 0
is_exact most s (Enter v) = v ≡ verdict_at most s
is_exact most s Leave = Unit {0}

-- each verdict of the history is the one that the count answers there
abbrev pub exact_from : (most : ℕ) → LimitState → List Entry → Type 0
exact_from most s [] = Unit {0}
exact_from most s (e ∷ h) = is_exact most s e.call.what × exact_from most (after_entry s e) h

abbrev pub exact : List Entry → (most : ℕ) → Type 0
exact h most = exact_from most nobody h

-- the history is legal for that limit with exact verdicts, and leaves so many inside
pub record Shows (c : Places) (h : List Entry) : Type 0 where
  pub is_legal : legal h c.most 0
  pub verdicts_exact : exact h c.most
  pub are_inside : length (state_after h).inside ≡ c.inside

-- the count after an exchange was answered so
abbrev pub entered : Places → Verdict → Places
entered c Admitted = record { most = c.most; inside = c.inside + 1 }
entered c Refused = c
