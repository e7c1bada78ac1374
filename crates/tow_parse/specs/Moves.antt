-- What a token does to a reader.
use Rattle.std.specs.Prelude.{◌≡◌, ◌↔◌, ℕ, Bool, true, false, not, Option, Some, None, List, [], ◌∷◌, map, ⊤}
use Rattle.tow_language.specs.declared.token.TokenKind.TheVariants.{Newline}
use Rattle.tow_language.specs.Symbols.{mark, Symbol}
use Rattle.tow_fit.specs.declared.fault.ParseFault.{ParseFault}
use Rattle.tow_fit.specs.declared.fault.ParseFault.TheVariants.{Unexpected, TooDeep, NoMemory}
use Rattle.tow_parse.specs.declared.goal.Goal.{Goal}
use Rattle.tow_parse.specs.declared.goal.Goal.TheVariants as goals
use Rattle.tow_parse.specs.declared.look.Look.{Look}
use Rattle.tow_parse.specs.declared.state.State.{State}
use Rattle.tow_parse.specs.Follows.{Leads, Follows}
use Rattle.tow_parse.specs.Looks.{Sees, waits_else, opens}
use Rattle.tow_parse.specs.Parts.{RawPart, raw_part}
use Rattle.tow_parse.specs.Shape.{Shaped}

abbrev pub told : State → List RawPart
told s = map raw_part s.parts

-- with the symbol x, what may follow the goals is what may follow the new state
pub record Takes (gs : List Goal) (old : State) (x : Symbol) (new : State) : Type 0 where
  pub shaped : Shaped new.goals
  pub leads : (d : ℕ) (xs : List Symbol) (all : List RawPart) →
      Leads d gs old.free (told old) (x ∷ xs) all ↔ Leads d new.goals new.free (told new) xs all

-- where such a token is next, what may follow the goals is what may follow the goals hs of the new state
pub record Passes (gs : List Goal) (old : State) (look : Look) (hs : List Goal) (new : State) : Type 0 where
  pub shaped : Shaped hs
  pub leads : (d : ℕ) (xs : List Symbol) (all : List RawPart) → Sees look xs →
      Leads d gs old.free (told old) xs all ↔ Leads d hs new.free (told new) xs all

-- no Newline is among the symbols
abbrev pub OneLine : List Symbol → Type 0
OneLine [] = ⊤
OneLine (x ∷ xs) = (x.sign ≡ mark Newline → ⊥) × OneLine xs

-- why the symbol x may not follow the goals
abbrev pub Stops : List Goal → State → Symbol → ParseFault → Type 0
Stops gs old x (Unexpected place) = (place ≡ x.place) × ((d : ℕ) (xs : List Symbol) → Follows d gs old.free (x ∷ xs) → ⊥)
Stops gs old x (TooDeep place) =
    (place ≡ x.place) × ((xs : List Symbol) → Follows 0 gs old.free (x ∷ xs) → ⊥) × ((xs : List Symbol) × OneLine xs × Follows 1 gs old.free (x ∷ xs))
Stops gs old x NoMemory = ⊤
Stops gs old x fault = ⊥

-- a goal that is not over before such a token
abbrev pub Waits : Goal → Look → Type 0
Waits (goals.Else levels) look = waits_else look ≡ true
Waits (goals.Named role name) look = opens look ≡ true
Waits (goals.Told joint) look = ⊥
Waits (goals.Called levels call) look = ⊥
Waits goal look = ⊤

-- a goal at which a text may end
abbrev pub may_end : Goal → Bool
may_end (goals.Statements levels nested) = not nested
may_end goal = false

-- a text may end where this is the next goal, or there is none
abbrev pub ends_at : Option Goal → Bool
ends_at None = true
ends_at (Some goal) = may_end goal
