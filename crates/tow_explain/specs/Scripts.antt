-- The tokens of a text, by their index.
use Rattle.std.specs.Prelude.{ℕ, zero, suc, ◌+◌, ◌-◌, Bool, true, false, ◌&&◌, ◌||◌, nat_le, nat_lt, List, [], length, slice_get, slice_range, take_while, bytes_eq, codes, Option, None, Some, if◌then◌else◌}
use Rattle.tow_language.specs.declared.token.Token.{Token}
use Rattle.tow_language.specs.declared.token.TokenKind.{TokenKind}
use Rattle.tow_language.specs.declared.token.TokenKind.TheVariants as kinds

-- the bytes of a text between two places, or none
abbrev pub part : List ℕ → ℕ → ℕ → List ℕ
part text from to = if nat_le from to && nat_le to (length text) then slice_range text from to else []

abbrev pub kind_of_token : Option Token → Option TokenKind
kind_of_token None = None
kind_of_token (Some t) = Some t.kind

abbrev pub bytes_of_token : List ℕ → Option Token → List ℕ
bytes_of_token text None = []
bytes_of_token text (Some t) = part text t.from t.to

abbrev pub place_of_token : List ℕ → Option Token → ℕ
place_of_token text None = length text
place_of_token text (Some t) = t.from

-- the index of the first token that begins at the place or after it, or the number of tokens
abbrev pub token_from : ℕ → List Token → ℕ
token_from place tokens = length (take_while (λ (t : Token). nat_lt t.from place) tokens)

-- what the token of this index is, if there is one
abbrev pub kind_at : List Token → ℕ → Option TokenKind
kind_at tokens i = kind_of_token (slice_get tokens i)

-- the bytes of the token of this index, or none
abbrev pub bytes_at : List ℕ → List Token → ℕ → List ℕ
bytes_at text tokens i = bytes_of_token text (slice_get tokens i)

-- the offset of the token of this index, or the length of the text
abbrev pub place_at : List ℕ → List Token → ℕ → ℕ
place_at text tokens i = place_of_token text (slice_get tokens i)

abbrev pub is_word_kind : Option TokenKind → Bool
is_word_kind (Some kinds.Word) = true
is_word_kind _ = false

-- the token of this index is this word
abbrev pub is_word : List ℕ → List Token → ℕ → List ℕ → Bool
is_word text tokens i word = is_word_kind (kind_at tokens i) && bytes_eq (bytes_at text tokens i) word

-- it joins predicates
abbrev pub is_joint : List ℕ → List Token → ℕ → Bool
is_joint text tokens i =
    is_word text tokens i (codes "and") || is_word text tokens i (codes "or") || is_word text tokens i (codes "not")

-- it is a word that names no call
abbrev pub is_reserved : List ℕ → List Token → ℕ → Bool
is_reserved text tokens i =
    is_joint text tokens i || is_word text tokens i (codes "else") || is_word text tokens i (codes "restart")
    || is_word text tokens i (codes "done")

-- it opens a bracket
abbrev pub opens : TokenKind → Bool
opens kinds.OpenRound = true
opens kinds.OpenSquare = true
opens kinds.OpenBrace = true
opens _ = false

-- it opens the brackets of a call, or the parentheses of a predicate
abbrev pub is_bracket : Option TokenKind → Bool
is_bracket (Some kinds.OpenRound) = true
is_bracket (Some kinds.OpenSquare) = true
is_bracket _ = false

-- it closes a bracket
abbrev pub closes : TokenKind → Bool
closes kinds.CloseRound = true
closes kinds.CloseSquare = true
closes kinds.CloseBrace = true
closes _ = false

abbrev pub is_line_end_kind : Option TokenKind → Bool
is_line_end_kind (Some kinds.Newline) = true
is_line_end_kind _ = false

-- the token of this index is a line end
abbrev pub is_line_end : List Token → ℕ → Bool
is_line_end tokens i = is_line_end_kind (kind_at tokens i)

-- the index behind this one, or the number of tokens
abbrev pub behind : List Token → ℕ → ℕ
behind tokens i = if nat_lt i (length tokens) then i + 1 else length tokens

-- the token before this one, past line ends or not
abbrev pub before : List Token → Bool → ℕ → Option ℕ
before tokens past zero = None
before tokens past (suc n) = if past && is_line_end tokens n then before tokens past n else Some n

-- of so many tokens from this one on, the first that is no line end
abbrev pub past_lines_of : ℕ → List Token → ℕ → ℕ
past_lines_of zero tokens i = length tokens
past_lines_of (suc n) tokens i = if is_line_end tokens i then past_lines_of n tokens (suc i) else i

-- the first token from this one on that is no line end
abbrev pub past_lines : List Token → ℕ → ℕ
past_lines tokens i = past_lines_of (length tokens - i) tokens i
