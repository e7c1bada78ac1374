-- In what a token stands.
use Rattle.std.specs.Prelude.{ℕ, zero, suc, ◌-◌, Bool, true, false, not, ◌&&◌, nat_lt, List, [], ◌∷◌, ◌++◌, length, take, slice_index, Option, None, Some, if◌then◌else◌}
use Rattle.tow_language.specs.declared.token.Token.{Token}
use Rattle.tow_language.specs.declared.token.TokenKind.{TokenKind}
use Rattle.tow_language.specs.declared.token.TokenKind.TheVariants as kinds
use Rattle.tow_explain.specs.declared.«open».Within.{Within}
use Rattle.tow_explain.specs.declared.«open».Within.TheVariants as withins
use Rattle.tow_explain.specs.Scripts.{before, closes, is_reserved, is_word_kind, kind_at, opens}

-- what is open after a token, of which this was open before
abbrev pub open_after : List ℕ → ℕ → Option TokenKind → List ℕ
open_after brackets i None = brackets
open_after brackets i (Some kind) =
    if opens kind then brackets ++ i ∷ [] else (if closes kind then take (length brackets - 1) brackets else brackets)

-- the tokens that open a bracket which is not closed before this one, the outermost first
abbrev pub open_before : List Token → ℕ → List ℕ
open_before tokens zero = []
open_before tokens (suc n) = open_after (open_before tokens n) n (kind_at tokens n)

abbrev pub is_open_brace_kind : Option TokenKind → Bool
is_open_brace_kind (Some kinds.OpenBrace) = true
is_open_brace_kind _ = false

abbrev pub is_open_brace : List Token → ℕ → Bool
is_open_brace tokens i = is_open_brace_kind (kind_at tokens i)

-- the token is a word that may name a call
abbrev pub is_name : List ℕ → List Token → ℕ → Bool
is_name text tokens i = is_word_kind (kind_at tokens i) && not (is_reserved text tokens i)

-- the innermost of what is open
abbrev pub innermost : List ℕ → ℕ
innermost brackets = slice_index brackets (length brackets - 1)

-- what is open outside the innermost
abbrev pub outside : List ℕ → List ℕ
outside brackets = take (length brackets - 1) brackets

-- a line end is white space where these are open
abbrev pub is_bracketed : List Token → List ℕ → Bool
is_bracketed tokens brackets = nat_lt 0 (length brackets) && not (is_open_brace tokens (innermost brackets))

abbrev pub within_named : List ℕ → List Token → Option ℕ → Within
within_named text tokens None = withins.Group
within_named text tokens (Some name) = if is_name text tokens name then withins.Call name else withins.Group

-- in what stands what follows a bracket, outside of which these are open: in a call, if a name stands before it
abbrev pub in_bracket : List ℕ → List Token → List ℕ → ℕ → Within
in_bracket text tokens outer bracket =
    if is_open_brace tokens bracket then withins.List else within_named text tokens (before tokens (is_bracketed tokens outer) bracket)

abbrev pub within_brace : Within → Within
within_brace (withins.Call name) = withins.Array name
within_brace _ = withins.List

-- in what stands what follows a brace, outside of which these are open
abbrev pub in_brace : List ℕ → List Token → List ℕ → Within
in_brace text tokens brackets =
    if nat_lt 0 (length brackets) then within_brace (in_bracket text tokens (outside brackets) (innermost brackets)) else withins.List

-- in what a token stands before which these are open
abbrev pub surroundings : List ℕ → List Token → List ℕ → Within
surroundings text tokens brackets =
    if nat_lt 0 (length brackets)
    then (if is_open_brace tokens (innermost brackets) then in_brace text tokens (outside brackets) else in_bracket text tokens (outside brackets) (innermost brackets))
    else withins.List
