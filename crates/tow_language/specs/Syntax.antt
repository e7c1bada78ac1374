-- The texts of the grammar, and the first token at which a text leaves it.
use Rattle.std.specs.Prelude.{◌≡◌, ◌⊎◌, ℕ, ◌+◌, ◌<◌, List, [], ◌∷◌, ◌++◌, length, take, drop}
use Rattle.tow_language.specs.declared.kind.Kind.{Kind}
use Rattle.tow_language.specs.declared.kind.Kind.TheVariants.{Unexpected, TooDeep}
use Rattle.tow_language.specs.declared.token.Token.{Token}
use Rattle.tow_language.specs.Raw.{RawList}
use Rattle.tow_language.specs.Symbols.{Symbol, joined, symbols_of}
use Rattle.tow_language.specs.Tokens.{Cuts}
use Rattle.tow_language.specs.Grammar.{ListThen, AtEnd}
use Rattle.tow_language.specs.Levels.{ListWithin}

-- the symbols are these statements, with at most n levels open at once
abbrev pub IsList : ℕ → List Symbol → RawList → Type 0
IsList n xs raw = ListWithin n raw × ListThen raw AtEnd (joined 0 xs)

-- the text is these statements
abbrev pub Reads : List ℕ → RawList → Type 0
Reads text raw = (tokens : List Token) × Cuts text tokens × IsList 32 (symbols_of text tokens) raw

-- the symbols begin some statements with at most n levels
abbrev pub Begins : ℕ → List Symbol → Type 0
Begins n xs = (rest : List Symbol) × (raw : RawList) × IsList n (xs ++ rest) raw

-- the place of the symbol i, or the end of the text
abbrev pub place_at : List ℕ → List Symbol → ℕ → ℕ
place_at text xs i = place_in (drop i xs)
  where
    place_in : List Symbol → ℕ
    place_in [] = length text
    place_in (y ∷ ys) = y.place

-- the first i symbols begin some statements; with the next they begin none, however many levels these have, or there is no next and they are none
pub record IsUnexpected (n : ℕ) (xs : List Symbol) (i : ℕ) : Type 0 where
  pub before : Begins n (take i xs)
  pub stops : (d : ℕ) → ((i < length xs) × (Begins (n + d) (take (i + 1) xs) → ⊥)) ⊎ ((i ≡ length xs) × ((raw : RawList) → IsList (n + d) xs raw → ⊥))

-- the first i symbols begin some statements; with the next they begin some with one more level, and none with n
pub record IsTooDeep (n : ℕ) (xs : List Symbol) (i : ℕ) : Type 0 where
  pub before : Begins n (take i xs)
  pub deeper : Begins (n + 1) (take (i + 1) xs)
  pub stops : Begins n (take (i + 1) xs) → ⊥

-- the fault of this kind is at the symbol i
abbrev pub StopsAt : Kind → List Symbol → ℕ → Type 0
StopsAt Unexpected xs i = IsUnexpected 32 xs i
StopsAt TooDeep xs i = (i < length xs) × IsTooDeep 32 xs i
StopsAt kind xs i = ⊥

-- why a text with tokens is not of the grammar
abbrev pub IsSyntaxFault : List ℕ → Kind → ℕ → Type 0
IsSyntaxFault text kind place =
    (tokens : List Token) × (i : ℕ) × Cuts text tokens × StopsAt kind (symbols_of text tokens) i × (place ≡ place_at text (symbols_of text tokens) i)
