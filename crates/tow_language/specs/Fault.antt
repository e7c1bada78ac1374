-- The tree of a text; or why it has none, over the three passes, and where.
use Rattle.std.specs.Prelude.{◌≡◌, ◌⊎◌, ℕ, ◌+◌, ◌==◌, not, List, take, length, reverse, count_by, take_while, Err}
use Rattle.tow_language.specs.declared.kind.Kind.{Kind}
use Rattle.tow_model.specs.declared.statement.Statement.{Statement}
use Rattle.tow_language.specs.Raw.{RawList}
use Rattle.tow_language.specs.Tokens.{IsTokenFault}
use Rattle.tow_language.specs.Syntax.{Reads, IsSyntaxFault}
use Rattle.tow_language.specs.Fit.{fit, Fits}

-- the text has this tree
abbrev pub IsTreeOf : List ℕ → List Statement → Type 0
IsTreeOf text tree = (raw : RawList) × Reads text raw × Fits raw tree

-- the first call of the text that does not fit the tables
abbrev pub IsCallFault : List ℕ → Kind → ℕ → Type 0
IsCallFault text kind place = (raw : RawList) × Reads text raw × (fit raw ≡ Err (record { kind = kind; place = place }))

-- the fault of the text: of its tokens, of its grammar, or of a call
abbrev pub IsFault : List ℕ → Kind → ℕ → Type 0
IsFault text kind place = IsTokenFault text kind place ⊎ (IsSyntaxFault text kind place ⊎ IsCallFault text kind place)

-- 1 and the line ends before the place
abbrev pub line_of : List ℕ → ℕ → ℕ
line_of text place = 1 + count_by (λ b. b == 10) (take place text)

-- 1 and the bytes between the last line end and the place
abbrev pub column_of : List ℕ → ℕ → ℕ
column_of text place = 1 + length (take_while (λ b. not (b == 10)) (reverse (take place text)))
