-- What a pass knows, and how the calls change it.
use Rattle.std.specs.Prelude.{ℕ, suc, ◌==◌, cond, List, [], ◌∷◌, ◌++◌, Option, Some, None}
use Rattle.tow_pass.specs.declared.view.View.{View}
use Rattle.tow_pass.specs.Calls.{Numbered, Holder, Nobody, Of_main, Of_connection}

-- main's pass at the start
abbrev pub opening_view : View
opening_view = record { holder = Of_main; calls = []; issued = 0; kept = [] }

-- a pass that was collected
abbrev pub spent_view : View
spent_view = record { holder = Nobody; calls = []; issued = 0; kept = [] }

-- one call more
abbrev pub called : View → Numbered → View
called v c = record { holder = v.holder; calls = v.calls ++ c ∷ []; issued = v.issued; kept = v.kept }

-- main's pass after an issue, and the pass that was issued
abbrev pub issues : View → View
issues v = record { holder = v.holder; calls = v.calls; issued = suc v.issued; kept = v.kept }

abbrev pub newcomer : View → View
newcomer v = record { holder = Of_connection v.issued; calls = []; issued = 0; kept = [] }

-- the number of a connection's pass
abbrev pub number_of : View → ℕ
number_of v = number v.holder where
  number : Holder → ℕ
  number Nobody = 0
  number Of_main = 0
  number (Of_connection k) = k

-- main's pass after it collected that of v
abbrev pub keeps_calls : View → View → View
keeps_calls v w = record { holder = v.holder; calls = v.calls; issued = v.issued; kept = (number_of w, w.calls) ∷ v.kept }

-- the calls that main's pass keeps of connection k, where it collected its pass
abbrev pub kept_of : ℕ → List (ℕ × List Numbered) → Option (List Numbered)
kept_of k [] = None
kept_of k (e ∷ es) = cond (k == e.0) (Some e.1) (kept_of k es)
