-- What contracts see of the limits and of a pass.
use Rattle.std.specs.Prelude.{ℕ, zero, suc, ◌<◌, ◌≤◌, ◌≡◌, true, List, [], ◌∷◌, All}
use Rattle.atomic_table.specs.Seated.{TableId}
use Rattle.tow_model.specs.declared.account.Bound.{Bound}
use Rattle.tow_pass.specs.declared.view.View.{View}
use Rattle.tow_pass.specs.Calls.{Of_main, is_connection, at_limit, admissions, leavings_of}
use Rattle.tow_pass.specs.Rule.{most_inside}

-- which limits they are, and how many each admits
pub record LimitsShown : Type 0 where
  pub name : TableId
  pub bounds : List Bound

-- of which limits it is a pass, and what it knows
pub record PassShown : Type 0 where
  pub limits : TableId
  pub view : View

-- how many limit l admits at a time
abbrev pub most_at : List Bound → ℕ → ℕ
most_at [] l = 0
most_at (b ∷ bs) zero = b.most
most_at (b ∷ bs) (suc l) = most_at bs l

-- each number of those inside fits a word
abbrev pub FitWords : List Bound → Type 0
FitWords bounds = All (λ b. b.most ≤ most_inside) bounds

-- whose it is: main's, or a connection's
abbrev pub IsMains : View → Type 0
IsMains v = v.holder ≡ Of_main

abbrev pub IsIssued : View → Type 0
IsIssued v = is_connection v.holder ≡ true

-- no call was for a later request
abbrev pub AreUpTo : ℕ → View → Type 0
AreUpTo j v = All (λ c. c.call.request ≤ j) v.calls

-- the request was admitted at this limit more often than it left
abbrev pub IsInside : (limit request : ℕ) → View → Type 0
IsInside l j v = leavings_of j (at_limit l v.calls) < admissions j (at_limit l v.calls)
