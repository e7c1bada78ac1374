-- What a token does to some goals.
use Rattle.std.specs.Prelude.{◌≡◌, ℕ, Bool, List, ◌∷◌, ◌++◌}
use Rattle.tow_language.specs.Symbols.{Symbol}
use Rattle.tow_parse.specs.declared.goal.Goal.{Goal}
use Rattle.tow_parse.specs.declared.look.Look.{Look}
use Rattle.tow_parse.specs.Follows.{Fills, AllThen, AllWithin, all_parts}
use Rattle.tow_parse.specs.Looks.{Sees}
use Rattle.tow_parse.specs.Parts.{RawPart}
use Rattle.tow_parse.specs.Shape.{Shaped}

-- with some parts told, what the goals may become with some symbols, the new goals may become with others
abbrev pub Turns : ℕ → List Goal → Bool → List Symbol → List Goal → Bool → List Symbol → List RawPart → Type 0
Turns d gs free xs hs then ys more =
    (rs : Fills gs) → AllWithin d gs rs → AllThen gs rs free xs →
    (ss : Fills hs) × AllWithin d hs ss × AllThen hs ss then ys × (all_parts gs rs ≡ more ++ all_parts hs ss)

-- the other way round
abbrev pub Returns : ℕ → List Goal → Bool → List Symbol → List Goal → Bool → List Symbol → List RawPart → Type 0
Returns d gs free xs hs then ys more =
    (ss : Fills hs) → AllWithin d hs ss → AllThen hs ss then ys →
    (rs : Fills gs) × AllWithin d gs rs × AllThen gs rs free xs × (all_parts gs rs ≡ more ++ all_parts hs ss)

pub record Same (d : ℕ) (gs : List Goal) (free : Bool) (xs : List Symbol) (hs : List Goal) (then : Bool) (ys : List Symbol) (more : List RawPart) : Type 0 where
  pub forth : Turns d gs free xs hs then ys more
  pub back : Returns d gs free xs hs then ys more

pub record Moved (gs : List Goal) (free : Bool) (x : Symbol) (hs : List Goal) (then : Bool) (more : List RawPart) : Type 0 where
  pub shaped : Shaped hs
  pub same : (d : ℕ) (xs : List Symbol) → Same d gs free (x ∷ xs) hs then xs more

pub record Passed (gs : List Goal) (free : Bool) (look : Look) (hs : List Goal) (then : Bool) (more : List RawPart) : Type 0 where
  pub shaped : Shaped hs
  pub same : (d : ℕ) (xs : List Symbol) → Sees look xs → Same d gs free xs hs then xs more
