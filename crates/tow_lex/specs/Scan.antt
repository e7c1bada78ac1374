-- What the steps of the scanner find at a place of the text.
use Rattle.std.specs.Prelude.{◌≡◌, ℕ, ◌<◌, ◌≤◌, Bool, true, false, List, length, drop, slice_range, ⊤}
use Rattle.tow_language.specs.declared.token.Token.{Token}
use Rattle.tow_language.specs.Tokens.{are_pieces, IsToken, IsOpenQuote, IsOpenBrace, IsStray, Reaches}
use Rattle.tow_lex.specs.declared.fault.LexFault.{LexFault}
use Rattle.tow_lex.specs.declared.fault.LexFault.TheVariants.{UnclosedQuote, UnclosedBrace, StrayByte, TooLong, NoMemory}

-- What goes on from `at` in pieces of a word goes on so from `from` too. The tests say whether a brace is open there.
abbrev pub Leads : List ℕ → Bool → ℕ → Bool → ℕ → Type 0
Leads text before from now at =
    (to : ℕ) → at ≤ to → to ≤ length text → are_pieces before (slice_range text from to) (drop to text) ≡ are_pieces now (slice_range text at to) (drop to text)

-- a token begins at the place
pub record IsNext (text : List ℕ) (from : ℕ) (t : Token) : Type 0 where
  pub at : t.from ≡ from
  pub forward : from < t.to
  pub within : t.to ≤ length text
  pub spelled : IsToken t.kind (slice_range text from t.to) (drop t.to text)

-- where no token begins, the fault of the place
abbrev pub StopsHere : List ℕ → ℕ → LexFault → Type 0
StopsHere text from (UnclosedQuote place) = (place ≡ from) × IsOpenQuote (drop from text)
StopsHere text from (UnclosedBrace place) = (from ≤ place) × (are_pieces false (slice_range text from place) (drop place text) ≡ true) × IsOpenBrace (drop place text)
StopsHere text from (StrayByte place) = (place ≡ from) × IsStray (drop from text)
StopsHere text from TooLong = ⊥
StopsHere text from NoMemory = ⊥

-- the fault of the place up to which the text is cut into tokens
abbrev pub Stops : List ℕ → LexFault → Type 0
Stops text NoMemory = ⊤
Stops text fault = (start : ℕ) × Reaches text start (drop start text) × StopsHere text start fault
