-- What the steps make of the views.
use Rattle.std.specs.Prelude.{ℕ, ◌==◌, ◌&&◌, ◌||◌, Bool, false, not, cond, List, [], ◌∷◌, ◌++◌, Some, None, suc, max}
use Rattle.tow_board.specs.declared.view.View.{View}
use Rattle.tow_board.specs.Finds.{without}

-- greater than each of them
abbrev pub top_of : List ℕ → ℕ
top_of [] = 0
top_of (n ∷ ns) = max (suc n) (top_of ns)

-- the number stands there with the fault
abbrev pub is_told : ℕ → ℕ → List (ℕ × ℕ) → Bool
is_told m a [] = false
is_told m a (e ∷ es) = ((m == e.0) && (a == e.1)) || is_told m a es

-- the number with the fault, where it is told now and was not before
abbrev pub told_newly : Bool → Bool → ℕ × ℕ → List (ℕ × ℕ) → List (ℕ × ℕ)
told_newly before now e es = cond (now && not before) (e ∷ es) es

module _ {O M : Type 0} where
  -- nobody's view
  abbrev pub blank : ℕ → ℕ → View O M
  blank role loops = record { of = record {}; role = role; loops = loops; hand = []; seen = None; posted = []; told = []; live = []; given = []; joined = []; numbers = []; kept = [] }

  -- main's, at first
  abbrev pub main_view : ℕ → View O M
  main_view loops = blank 1 loops

  -- as `join` leaves it
  abbrev pub spent_view : View O M
  spent_view = blank 0 0

  -- a seat looked at the word of the slot k, and found n
  abbrev pub saw : View O M → ℕ → ℕ → View O M
  saw v k n = record v { seen = Some (k, n) }

  -- main opened the slot k
  abbrev pub began : View O M → ℕ → View O M
  began v k = record v { hand = (k, None) ∷ v.hand; live = (k, None) ∷ v.live }

  -- main freed the slot k
  abbrev pub retired : View O M → ℕ → View O M
  retired v k = record v { hand = without k v.hand; live = without k v.live }

  -- main gave a role
  abbrev pub gave : View O M → ℕ → View O M
  gave v r = record v { given = (r, 0) ∷ v.given }

  -- the seat of a role that was just given
  abbrev pub newcomer : View O M → ℕ → View O M
  newcomer v r = blank r v.loops

  -- main, after it joined the seat of w
  abbrev pub joined_with : View O M → View O M → View O M
  joined_with v w = record v { posted = w.posted ++ v.posted; told = w.told ++ v.told; joined = (w.role, 0) ∷ v.joined }

  module _ (number : O → ℕ) where
    -- a worker or a loop claimed the slot k, whose value has that origin and mark
    abbrev pub gained : View O M → ℕ → O × M → View O M
    gained v k i = record v { hand = (k, Some i) ∷ v.hand }

    -- main claimed it
    abbrev pub took_back : View O M → ℕ → O × M → View O M
    took_back v k i = record v { hand = (k, Some i) ∷ v.hand; kept = (number i.0, i) ∷ v.kept }

    -- main published a value with that origin and mark
    abbrev pub starts : View O M → ℕ → O × M → View O M
    starts v k i = record v { hand = without k v.hand; live = (k, Some i.0) ∷ v.live; numbers = number i.0 ∷ v.numbers }

    -- a loop did
    abbrev pub posts : View O M → ℕ → O × M → View O M
    posts v k i = record v { hand = without k v.hand; posted = (number i.0, i) ∷ v.posted }

  -- a worker published what it had claimed with the mark `old`
  abbrev pub returns : (O → ℕ) → (M → ℕ → Bool) → View O M → ℕ → M → O × M → View O M
  returns number tells v k old i = record v {
    hand = without k v.hand;
    told = told_newly (tells old 0) (tells i.1 0) (number i.0, 0) (told_newly (tells old 1) (tells i.1 1) (number i.0, 1) v.told);
  }
