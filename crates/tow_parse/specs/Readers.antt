-- What a reader knows of the text before it.
use Rattle.std.specs.Prelude.{◌≡◌, ◌↔◌, ℕ, ◌+◌, List, [], ◌∷◌, ◌++◌, map, ⊤}
use Rattle.tow_language.specs.Raw.{RawList}
use Rattle.tow_language.specs.Symbols.{Symbol, joined}
use Rattle.tow_language.specs.Syntax.{IsList}
use Rattle.tow_fit.specs.declared.fault.ParseFault.{ParseFault}
use Rattle.tow_fit.specs.declared.fault.ParseFault.TheVariants.{Unexpected, TooDeep, NoMemory}
use Rattle.tow_parse.specs.declared.part.Part.{Part}
use Rattle.tow_parse.specs.declared.step.Reader.{Reader}
use Rattle.tow_parse.specs.Follows.{Leads, Follows}
use Rattle.tow_parse.specs.Moves.{told}
use Rattle.tow_parse.specs.Parts.{RawPart, raw_part, parts_of}
use Rattle.tow_parse.specs.Shape.{Shaped}

-- the symbols are a text with d more levels than a text may have, which makes these parts
abbrev pub Makes : ℕ → List Symbol → List RawPart → Type 0
Makes d xs all = (raw : RawList) × IsList (32 + d) xs raw × (parts_of raw ≡ all)

-- the symbols may follow, and in the end all is told
abbrev pub Remains : Reader → ℕ → List Symbol → List RawPart → Type 0
Remains r d xs all = Leads d r.state.goals r.state.free (told r.state) (joined r.depth xs) all

abbrev pub MayFollow : Reader → ℕ → List Symbol → Type 0
MayFollow r d xs = Follows d r.state.goals r.state.free (joined r.depth xs)

-- with the front before it, what is a text is what may follow the reader
pub record Agrees (front : List Symbol) (r : Reader) : Type 0 where
  pub shaped : Shaped r.state.goals
  pub same : (d : ℕ) (xs : List Symbol) (all : List RawPart) → Makes d (front ++ xs) all ↔ Remains r d xs all

-- the symbol x is behind the old reader, and before the new one
pub record Steps (old : Reader) (x : Symbol) (new : Reader) : Type 0 where
  pub shaped : Shaped new.state.goals
  pub same : (d : ℕ) (xs : List Symbol) (all : List RawPart) → Remains old d (x ∷ xs) all ↔ Remains new d xs all

-- why the symbol x may not follow
abbrev pub Halts : Reader → Symbol → ParseFault → Type 0
Halts r x (Unexpected place) = (place ≡ x.place) × ((d : ℕ) (xs : List Symbol) → MayFollow r d (x ∷ xs) → ⊥)
Halts r x (TooDeep place) = (place ≡ x.place) × ((xs : List Symbol) → MayFollow r 0 (x ∷ xs) → ⊥) × ((xs : List Symbol) × MayFollow r 1 (x ∷ xs))
Halts r x NoMemory = ⊤
Halts r x fault = ⊥

-- the text may end, and makes these parts
abbrev pub Finishes : Reader → List Part → Type 0
Finishes r parts = Remains r 0 [] (map raw_part parts)

-- the text may not end here
abbrev pub EndsEarly : Reader → ℕ → ParseFault → Type 0
EndsEarly r end (Unexpected place) = (place ≡ end) × ((d : ℕ) → MayFollow r d [] → ⊥)
EndsEarly r end NoMemory = ⊤
EndsEarly r end fault = ⊥
