-- How a text is cut into tokens, and where it cannot be.
use Rattle.std.specs.Prelude.{◌≡◌, ◌⊎◌, ℕ, ◌+◌, ◌<◌, ◌≤◌, Bool, true, false, not, ◌&&◌, ◌||◌, ◌==◌, nat_le, nat_lt, List, [], ◌∷◌, ◌++◌, length, IsTrue, IsFalse, IsUtf8, codes}
use Rattle.std.specs.List.{list_any, list_all}
use Rattle.std.specs.Str.{IsValidUpTo}
use Rattle.tow_language.specs.declared.kind.Kind.{Kind}
use Rattle.tow_language.specs.declared.kind.Kind.TheVariants.{TooLong, UnclosedQuote, UnclosedBrace, StrayByte}
use Rattle.tow_language.specs.declared.token.Token.{Token}
use Rattle.tow_language.specs.declared.token.TokenKind.{TokenKind}
use Rattle.tow_language.specs.declared.token.TokenKind.TheVariants.{Newline, Semi, Comma, Equals, OpenRound, CloseRound, OpenSquare, CloseSquare, OpenBrace, CloseBrace, Arrow, Quoted, Word}

-- space, TAB and CR
abbrev pub is_white : ℕ → Bool
is_white b = (b == 32 || b == 9) || b == 13

-- the next byte is b
abbrev pub next_is : ℕ → List ℕ → Bool
next_is b [] = false
next_is b (c ∷ cs) = c == b

-- a byte that begins a piece of a word, where `after` follows it; a `-` before `>` does not
abbrev pub begins_piece : ℕ → List ℕ → Bool
begins_piece b after = (nat_le 33 b && nat_le b 126) && not (list_any (λ c. c == b) (codes "()[]{},=;'\"")) && not (b == 45 && next_is 62 after)

-- `%{` and `${`, where `after` follows the first of the two bytes
abbrev pub opens_brace : ℕ → List ℕ → Bool
opens_brace b after = (b == 37 || b == 36) && next_is 123 after

-- the bytes are pieces of a word, where `after` follows them; `inside` says whether a brace is open before them
abbrev pub are_pieces : Bool → List ℕ → List ℕ → Bool
are_pieces inside [] after = not inside
are_pieces true (b ∷ bs) after = not (b == 10) && are_pieces (not (b == 125)) bs after
are_pieces false (b ∷ bs) after = begins_piece b (bs ++ after) && are_pieces (opens_brace b (bs ++ after)) bs after

abbrev pub no_piece : List ℕ → Bool
no_piece [] = true
no_piece (b ∷ bs) = not (begins_piece b bs)

-- the longest run of pieces, of which there is one
abbrev pub IsWord : List ℕ → List ℕ → Type 0
IsWord spelled after = (0 < length spelled) × IsTrue (are_pieces false spelled after) × IsTrue (no_piece after)

abbrev pub is_quote : ℕ → Bool
is_quote q = q == 39 || q == 34

-- behind the byte `before`, each quote q stands directly behind a backslash
abbrev pub are_escaped : ℕ → ℕ → List ℕ → Bool
are_escaped q before [] = true
are_escaped q before (b ∷ bs) = (not (b == q) || before == 92) && are_escaped q b bs

-- the last byte, or the one before where there is none
abbrev pub last_byte : ℕ → List ℕ → ℕ
last_byte before [] = before
last_byte before (b ∷ bs) = last_byte b bs

-- bytes between two quotes, up to the first that stands behind no backslash
abbrev pub IsQuoted : List ℕ → Type 0
IsQuoted spelled =
    (q : ℕ) × (inside : List ℕ) × IsTrue (is_quote q) × (spelled ≡ q ∷ (inside ++ q ∷ [])) × IsTrue (are_escaped q q inside) × IsFalse (last_byte q inside == 92)

-- the spelling of a token, where `after` follows it
abbrev pub IsToken : TokenKind → List ℕ → List ℕ → Type 0
IsToken Newline spelled after = spelled ≡ 10 ∷ []
IsToken Semi spelled after = spelled ≡ codes ";"
IsToken Comma spelled after = spelled ≡ codes ","
IsToken Equals spelled after = spelled ≡ codes "="
IsToken OpenRound spelled after = spelled ≡ codes "("
IsToken CloseRound spelled after = spelled ≡ codes ")"
IsToken OpenSquare spelled after = spelled ≡ codes "["
IsToken CloseSquare spelled after = spelled ≡ codes "]"
IsToken OpenBrace spelled after = spelled ≡ codes "{"
IsToken CloseBrace spelled after = spelled ≡ codes "}"
IsToken Arrow spelled after = spelled ≡ codes "->"
IsToken Quoted spelled after = IsQuoted spelled
IsToken Word spelled after = IsWord spelled after

-- white space, and then `after`
abbrev pub IsGap : List ℕ → List ℕ → Type 0
IsGap gap after = IsTrue (list_all is_white gap)

-- from the place `at` on, the tokens with the white space before them cut the bytes up to `left`
abbrev pub CutsUpTo : ℕ → List ℕ → List Token → List ℕ → Type 0
CutsUpTo at bytes [] left = (gap : List ℕ) × (bytes ≡ gap ++ left) × IsGap gap left
CutsUpTo at bytes (t ∷ ts) left = (gap spelled after : List ℕ) × (bytes ≡ gap ++ (spelled ++ after)) × IsGap gap (spelled ++ after)
    × (t.from ≡ at + length gap) × (t.to ≡ t.from + length spelled) × IsToken t.kind spelled after × CutsUpTo t.to after ts left

-- the tokens of a text
pub record Cuts (text : List ℕ) (tokens : List Token) : Type 0 where
  pub short : length text ≤ 65536
  pub utf8 : IsUtf8 text
  pub whole : CutsUpTo 0 text tokens []

-- up to a place the text is cut into tokens, and `left` is what stands there
abbrev pub Reaches : List ℕ → ℕ → List ℕ → Type 0
Reaches text place left = (tokens : List Token) × CutsUpTo 0 text tokens left × (length text ≡ place + length left)

-- a quote behind which each quote stands directly behind a backslash
abbrev pub IsOpenQuote : List ℕ → Type 0
IsOpenQuote left = (q : ℕ) × (inside : List ℕ) × IsTrue (is_quote q) × (left ≡ q ∷ inside) × IsTrue (are_escaped q q inside)

-- no `}` comes before the next line end
abbrev pub is_open : List ℕ → Bool
is_open [] = true
is_open (b ∷ bs) = b == 10 || (not (b == 125) && is_open bs)

-- `%{` or `${` without a `}` in its line
abbrev pub IsOpenBrace : List ℕ → Type 0
IsOpenBrace left = (b : ℕ) × (inside : List ℕ) × (left ≡ b ∷ inside) × IsTrue (opens_brace b inside) × IsTrue (is_open inside)

-- a byte that begins no token and is no white space
abbrev pub IsStray : List ℕ → Type 0
IsStray left = (b : ℕ) × (after : List ℕ) × (left ≡ b ∷ after) × IsFalse (is_white b || b == 10) × IsTrue (nat_lt b 33 || nat_lt 126 b)

-- a place at which the text has a fault of this kind
abbrev pub HasFault : List ℕ → Kind → ℕ → Type 0
HasFault text UnclosedQuote place = (left : List ℕ) × Reaches text place left × IsOpenQuote left
HasFault text UnclosedBrace place =
    (pieces left : List ℕ) × (start : ℕ) × Reaches text start (pieces ++ left) × IsTrue (are_pieces false pieces left) × IsOpenBrace left × (place ≡ start + length pieces)
HasFault text StrayByte place =
    ((left : List ℕ) × Reaches text place left × IsStray left) ⊎ IsValidUpTo text place
HasFault text kind place = ⊥

-- why a text has no tokens: it is too long, or the fault at the least place
abbrev pub IsTokenFault : List ℕ → Kind → ℕ → Type 0
IsTokenFault text TooLong place = (65536 < length text) × (place ≡ 65536)
IsTokenFault text kind place = (length text ≤ 65536) × HasFault text kind place × ((other : Kind) (earlier : ℕ) → HasFault text other earlier → place ≤ earlier)
