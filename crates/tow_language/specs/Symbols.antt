-- The tokens of a text as the grammar sees them.
use Rattle.std.specs.Prelude.{ℕ, suc, ◌+◌, ◌-◌, ◌==◌, ◌&&◌, List, [], ◌∷◌, map, slice_range, slice_index, take, length, if◌then◌else◌}
use Rattle.tow_language.specs.declared.token.Token.{Token}
use Rattle.tow_language.specs.declared.token.TokenKind.{TokenKind}
use Rattle.tow_language.specs.declared.token.TokenKind.TheVariants.{Newline, OpenRound, CloseRound, OpenSquare, CloseSquare, Quoted, Word}
use Rattle.tow_language.specs.Tokens.{next_is}

-- a Word with its bytes, a Quoted with the bytes that it stands for, or a mark
pub data Sign : Type 0 where
  word : List ℕ → Sign
  quoted : List ℕ → Sign
  mark : TokenKind → Sign

pub record Symbol : Type 0 where
  pub sign : Sign
  pub place : ℕ

-- the bytes for which the bytes between two quotes q stand
abbrev pub unescaped : ℕ → List ℕ → List ℕ
unescaped q [] = []
unescaped q (b ∷ bs) = if b == 92 && next_is q bs then unescaped q bs else b ∷ unescaped q bs

-- a token's spelling, without its first and its last byte
abbrev pub inner : List ℕ → List ℕ
inner [] = []
inner (q ∷ bs) = take (length bs - 1) bs

abbrev pub sign_of : TokenKind → List ℕ → Sign
sign_of Word spelled = word spelled
sign_of Quoted spelled = quoted (unescaped (slice_index spelled 0) (inner spelled))
sign_of kind spelled = mark kind

abbrev pub symbol_of : List ℕ → Token → Symbol
symbol_of text t = record { sign = sign_of t.kind (slice_range text t.from t.to); place = t.from }

-- how many round and square brackets are open behind a sign, where n are open before it
abbrev pub open_after : Sign → ℕ → ℕ
open_after (mark OpenRound) n = n + 1
open_after (mark OpenSquare) n = n + 1
open_after (mark CloseRound) n = n - 1
open_after (mark CloseSquare) n = n - 1
open_after sign n = n

-- the symbols without each Newline that stands between round or square brackets, where n brackets are open before them
abbrev pub joined : ℕ → List Symbol → List Symbol
joined n [] = []
joined n (x ∷ xs) = joined_at n x.sign x (joined (open_after x.sign n) xs)
  where
    joined_at : ℕ → Sign → Symbol → List Symbol → List Symbol
    joined_at (suc n) (mark Newline) x rest = rest
    joined_at n s x rest = x ∷ rest

abbrev pub symbols_of : List ℕ → List Token → List Symbol
symbols_of text tokens = map (symbol_of text) tokens
