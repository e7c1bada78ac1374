-- What a history says of one connection, and which tickets it draws and grants.
use Rattle.std.specs.Prelude.{ℕ, suc, ◌+◌, ◌≤◌, ◌==◌, cond, List, [], ◌∷◌, ◌++◌, Option, Some, None, filter_map}
use Rattle.tow_model.specs.declared.account.Call.{Call}
use Rattle.tow_model.specs.declared.account.What.{What}
use Rattle.tow_model.specs.declared.account.What.TheVariants.{Enter, Leave}
use Rattle.tow_history.specs.declared.entry.Entry.{Entry}
use Rattle.tow_model.specs.declared.account.Verdict.{Verdict}
use Rattle.tow_history.specs.Deed.{Deed, Comes, Waits, Stays_out, Goes, deed_of}
use Rattle.tow_history.specs.Legal.{Who, same_who, LimitState, after_entry, who_of, nobody}

-- the calls of connection k in the history
abbrev pub of : List Entry → ℕ → List Call
of [] k = []
of (e ∷ h) k = cond (e.connection == k) (e.call ∷ of h k) (of h k)

abbrev pub verdict_in : What → Option Verdict
verdict_in (Enter v) = Some v
verdict_in Leave = None

abbrev pub verdicts : List Call → List Verdict
verdicts calls = filter_map (λ c. verdict_in c.what) calls

-- the calls and the entries that name limit l
abbrev pub calls_at : ℕ → List Call → List Call
calls_at l [] = []
calls_at l (c ∷ cs) = cond (c.limit == l) (c ∷ calls_at l cs) (calls_at l cs)

abbrev pub entries_at : ℕ → List Entry → List Entry
entries_at l [] = []
entries_at l (e ∷ es) = cond (e.call.limit == l) (e ∷ entries_at l es) (entries_at l es)

abbrev pub refusals_in : Deed → ℕ
refusals_in Comes = 0
refusals_in (Waits t) = 0
refusals_in Stays_out = 1
refusals_in Goes = 0

-- how many refusals the history has
abbrev pub refusals : List Entry → ℕ
refusals [] = 0
refusals (e ∷ h) = refusals_in (deed_of e.call.what) + refusals h

abbrev pub drawn_by : Deed → List ℕ
drawn_by (Waits t) = t ∷ []
drawn_by Comes = []
drawn_by Stays_out = []
drawn_by Goes = []

-- the tickets that were drawn, in the order of the entries
abbrev pub drawn_tickets : List Entry → List ℕ
drawn_tickets [] = []
drawn_tickets (e ∷ h) = drawn_by (deed_of e.call.what) ++ drawn_tickets h

abbrev pub front : List (Who × ℕ) → List ℕ
front [] = []
front (p ∷ line) = p.1 ∷ []

abbrev pub granted_by : Deed → LimitState → List ℕ
granted_by Goes s = front s.line
granted_by Comes s = []
granted_by (Waits t) s = []
granted_by Stays_out s = []

abbrev pub granted_from : LimitState → List Entry → List ℕ
granted_from s [] = []
granted_from s (e ∷ h) = granted_by (deed_of e.call.what) s ++ granted_from (after_entry s e) h

-- the tickets that were granted, in the order of the leavings that granted them
abbrev pub granted_tickets : List Entry → List ℕ
granted_tickets h = granted_from nobody h

-- how often an exchange entered, by being admitted or queued, and how often it left
abbrev pub entering : Deed → ℕ
entering Comes = 1
entering (Waits t) = 1
entering Stays_out = 0
entering Goes = 0

abbrev pub leaving : Deed → ℕ
leaving Goes = 1
leaving Comes = 0
leaving (Waits t) = 0
leaving Stays_out = 0

abbrev pub enterings : Who → List Entry → ℕ
enterings w [] = 0
enterings w (e ∷ h) = cond (same_who w (who_of e)) (entering (deed_of e.call.what) + enterings w h) (enterings w h)

abbrev pub leavings : Who → List Entry → ℕ
leavings w [] = 0
leavings w (e ∷ h) = cond (same_who w (who_of e)) (leaving (deed_of e.call.what) + leavings w h) (leavings w h)

-- each number is at least n, and greater than the one before it
abbrev pub rising_from : ℕ → List ℕ → Type 0
rising_from n [] = Unit {0}
rising_from n (t ∷ ts) = (n ≤ t) × rising_from (suc t) ts

abbrev pub rising : List ℕ → Type 0
rising ts = rising_from 0 ts
