-- What a token is to the grammar.
use Rattle.std.specs.Prelude.{◌≡◌, ℕ, ◌+◌, ◌-◌, Bool, true, false, not, List, [], ◌∷◌, codes}
use Rattle.tow_language.specs.declared.token.TokenKind.TheVariants as kinds
use Rattle.tow_language.specs.Symbols.{Sign, word, quoted, mark, Symbol}
use Rattle.tow_language.specs.Grammar.{is_reserved}
use Rattle.tow_parse.specs.declared.look.Look.{Look}
use Rattle.tow_parse.specs.declared.look.Look.TheVariants.{And, Or, Not, Else, Restart, Done, Name, Quoted, Newline, Semi, Comma, Equals, OpenRound, CloseRound, OpenSquare, CloseSquare, OpenBrace, CloseBrace, Arrow, End}

abbrev pub Shows : Look → Sign → Type 0
Shows And s = s ≡ word (codes "and")
Shows Or s = s ≡ word (codes "or")
Shows Not s = s ≡ word (codes "not")
Shows Else s = s ≡ word (codes "else")
Shows Restart s = s ≡ word (codes "restart")
Shows Done s = s ≡ word (codes "done")
Shows Name s = (bytes : List ℕ) × (s ≡ word bytes) × (is_reserved bytes ≡ false)
Shows Quoted s = (bytes : List ℕ) × (s ≡ quoted bytes)
Shows Newline s = s ≡ mark kinds.Newline
Shows Semi s = s ≡ mark kinds.Semi
Shows Comma s = s ≡ mark kinds.Comma
Shows Equals s = s ≡ mark kinds.Equals
Shows OpenRound s = s ≡ mark kinds.OpenRound
Shows CloseRound s = s ≡ mark kinds.CloseRound
Shows OpenSquare s = s ≡ mark kinds.OpenSquare
Shows CloseSquare s = s ≡ mark kinds.CloseSquare
Shows OpenBrace s = s ≡ mark kinds.OpenBrace
Shows CloseBrace s = s ≡ mark kinds.CloseBrace
Shows Arrow s = s ≡ mark kinds.Arrow
Shows End s = ⊥

-- the symbols begin with such a token, or there are none
abbrev pub Sees : Look → List Symbol → Type 0
Sees look [] = look ≡ End
Sees look (x ∷ xs) = Shows look x.sign

-- a token behind a statement that may have an `else`: the `else`, or a separator
abbrev pub waits_else : Look → Bool
waits_else Else = true
waits_else Newline = true
waits_else Semi = true
waits_else look = false

-- a token that goes on a call
abbrev pub opens : Look → Bool
opens OpenRound = true
opens OpenSquare = true
opens look = false

-- a token that makes a call the first of a predicate
abbrev pub joins : Look → Bool
joins And = true
joins Or = true
joins Arrow = true
joins look = false

-- a token that ends a predicate, in a parenthesis or at the front of a statement
abbrev pub ends : Look → Bool → Bool
ends CloseRound grouped = grouped
ends Arrow grouped = not grouped
ends look grouped = false

-- how many round and square brackets are open behind such a token
abbrev pub opened : Look → ℕ → ℕ
opened OpenRound n = n + 1
opened OpenSquare n = n + 1
opened CloseRound n = n - 1
opened CloseSquare n = n - 1
opened look n = n

-- a token that closes the brackets of a call, square or round
abbrev pub shuts : Look → Bool → Bool
shuts CloseSquare square = square
shuts CloseRound square = not square
shuts look square = false
