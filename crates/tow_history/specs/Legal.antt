-- Which histories of a limit are legal.
use Rattle.std.specs.Prelude.{ℕ, suc, ◌+◌, ◌<◌, ◌≤◌, ◌==◌, ◌≡◌, ◌⊎◌, Bool, ◌&&◌, cond, List, [], ◌∷◌, ◌++◌, length, map}
use Rattle.tow_model.specs.declared.account.Bound.{Bound}
use Rattle.tow_model.specs.declared.account.What.{What}
use Rattle.tow_history.specs.declared.entry.Entry.{Entry}
use Rattle.tow_history.specs.Deed.{Deed, Comes, Waits, Stays_out, Goes, deed_of, queue_of, counters_end}

-- an exchange: the number of its connection, and which of its requests it is
abbrev pub Who : Type 0
Who = ℕ × ℕ

abbrev pub same_who : Who → Who → Bool
same_who a b = (a.0 == b.0) && (a.1 == b.1)

-- how often it stands in the list
abbrev pub times : Who → List Who → ℕ
times w [] = 0
times w (v ∷ vs) = cond (same_who w v) (suc (times w vs)) (times w vs)

-- the list without it, once
abbrev pub take_out : Who → List Who → List Who
take_out w [] = []
take_out w (v ∷ vs) = cond (same_who w v) vs (v ∷ take_out w vs)

-- a limit at a point of its history
pub record LimitState : Type 0 where
  pub inside : List Who
  pub line : List (Who × ℕ)  -- who waits, with their tickets, the first in front
  pub drawn : ℕ  -- how many were admitted or queued so far
  pub left : ℕ  -- how many left so far

abbrev pub nobody : LimitState
nobody = record { inside = []; line = []; drawn = 0; left = 0 }

abbrev pub waiting : List (Who × ℕ) → List Who
waiting line = map (λ p. p.0) line

abbrev pub tickets : List (Who × ℕ) → List ℕ
tickets line = map (λ p. p.1) line

-- those inside when the first of the line has gone in, and the line without it
abbrev pub let_in : List (Who × ℕ) → List Who → List Who
let_in [] inside = inside
let_in (p ∷ line) inside = inside ++ p.0 ∷ []

abbrev pub without_first : List (Who × ℕ) → List (Who × ℕ)
without_first [] = []
without_first (p ∷ line) = line

abbrev pub done : Deed → Who → LimitState → LimitState
done Comes w s = record { inside = s.inside ++ w ∷ []; line = s.line; drawn = suc s.drawn; left = s.left }
done (Waits t) w s = record { inside = s.inside; line = s.line ++ (w, t) ∷ []; drawn = suc s.drawn; left = s.left }
done Stays_out w s = s
done Goes w s = record { inside = let_in s.line (take_out w s.inside); line = without_first s.line; drawn = s.drawn; left = suc s.left }

-- it may be done there, at a limit that admits `most` and lets `queue` wait
abbrev pub May : (most queue : ℕ) → LimitState → Who → Deed → Type 0
May most queue s w Comes = length s.inside < most
May most queue s w (Waits t) = (length s.inside ≡ most) × (length s.line < queue) × (times w s.inside ≡ 0) × (t ≡ s.drawn)
May most queue s w Stays_out = ((length s.inside ≡ most) × ((length s.line ≡ queue) ⊎ (0 < times w s.inside))) ⊎ (counters_end ≤ s.drawn + s.left)
May most queue s w Goes = 0 < times w s.inside

abbrev pub who_of : Entry → Who
who_of e = (e.connection, e.call.request)

abbrev pub after_entry : LimitState → Entry → LimitState
after_entry s e = done (deed_of e.call.what) (who_of e) s

-- the limit after these entries
abbrev pub state_from : LimitState → List Entry → LimitState
state_from s [] = s
state_from s (e ∷ es) = state_from (after_entry s e) es

abbrev pub state_after : List Entry → LimitState
state_after h = state_from nobody h

abbrev pub legal_from : (most queue : ℕ) → LimitState → List Entry → Type 0
legal_from most queue s [] = Unit {0}
legal_from most queue s (e ∷ es) = May most queue s (who_of e) (deed_of e.call.what) × legal_from most queue (after_entry s e) es

-- the history of a limit that admits `most` at a time and lets `queue` wait
abbrev pub legal : List Entry → (most queue : ℕ) → Type 0
legal h most queue = legal_from most queue nobody h

abbrev pub legal_at : Bound → List Entry → Type 0
legal_at b h = legal h b.most (queue_of b)

-- what connection k did for its request j at limit l
abbrev pub entry_of : (k l j : ℕ) → What → Entry
entry_of k l j what = record { connection = k; call = record { limit = l; request = j; what = what } }
