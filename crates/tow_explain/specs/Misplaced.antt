-- Why a token may not stand where it stands.
use Rattle.std.specs.Prelude.{ℕ, ◌-◌, Bool, true, false, not, ◌&&◌, ◌||◌, ◌==◌, nat_lt, List, length, slice_index, codes, Option, None, Some, if◌then◌else◌}
use Rattle.tow_language.specs.declared.token.Token.{Token}
use Rattle.tow_language.specs.declared.token.TokenKind.{TokenKind}
use Rattle.tow_language.specs.declared.token.TokenKind.TheVariants as kinds
use Rattle.tow_explain.specs.declared.cause.Cause.{Cause}
use Rattle.tow_explain.specs.declared.cause.Cause.TheVariants as causes
use Rattle.tow_explain.specs.declared.«open».Within.{Within}
use Rattle.tow_explain.specs.declared.«open».Within.TheVariants as withins
use Rattle.tow_explain.specs.Comments.{begins_comment}
use Rattle.tow_explain.specs.Scripts.{before, behind, bytes_at, closes, is_bracket, is_joint, is_line_end, is_reserved, is_word, is_word_kind, kind_at, past_lines}
use Rattle.tow_explain.specs.Surroundings.{innermost, is_open_brace_kind, surroundings}

abbrev pub is_open_round_kind : Option TokenKind → Bool
is_open_round_kind (Some kinds.OpenRound) = true
is_open_round_kind _ = false

abbrev pub is_open_square_kind : Option TokenKind → Bool
is_open_square_kind (Some kinds.OpenSquare) = true
is_open_square_kind _ = false

abbrev pub is_comma_kind : Option TokenKind → Bool
is_comma_kind (Some kinds.Comma) = true
is_comma_kind _ = false

abbrev pub is_equals_kind : Option TokenKind → Bool
is_equals_kind (Some kinds.Equals) = true
is_equals_kind _ = false

abbrev pub is_closing : Option TokenKind → Bool
is_closing None = false
is_closing (Some kind) = closes kind

-- what the first opens is still open where the text ends or the second closes another bracket
abbrev pub is_left_open : Option TokenKind → Option TokenKind → Bool
is_left_open opened None = true
is_left_open opened (Some kinds.CloseRound) = not (is_open_round_kind opened)
is_left_open opened (Some kinds.CloseSquare) = not (is_open_square_kind opened)
is_left_open opened (Some kinds.CloseBrace) = not (is_open_brace_kind opened)
is_left_open opened (Some _) = false

abbrev pub begins_with : ℕ → List ℕ → Bool
begins_with b bytes = nat_lt 0 (length bytes) && (slice_index bytes 0 == b)

-- the token, or the one before it, was to begin a comment
abbrev pub is_comment : List ℕ → List Token → ℕ → Bool
is_comment text tokens i =
    begins_comment (bytes_at text tokens i) || (nat_lt 0 i && begins_comment (bytes_at text tokens (i - 1)))

-- a line end stands before the token
abbrev pub begins_line : List Token → ℕ → Bool
begins_line tokens i = nat_lt 0 i && is_line_end tokens (i - 1)

abbrev pub is_arrow_kind : Option TokenKind → Bool
is_arrow_kind (Some kinds.Arrow) = true
is_arrow_kind _ = false

-- the token goes on with a statement that has begun
abbrev pub goes_on : List ℕ → List Token → ℕ → Bool
goes_on text tokens i = is_arrow_kind (kind_at tokens i) || is_joint text tokens i

-- what follows the token begins with `>`
abbrev pub is_arrow_head : List ℕ → List Token → ℕ → Bool
is_arrow_head text tokens i = begins_with 62 (bytes_at text tokens (behind tokens i))

-- what is wrong with what follows `restart` or `done`
abbrev pub after_end : Option TokenKind → Cause
after_end here = if is_bracket here then causes.NoBrackets else causes.AfterStatement

-- what is wrong with the token j, which follows the word i
abbrev pub after_word : List ℕ → List Token → ℕ → ℕ → Cause
after_word text tokens j i =
    if is_joint text tokens i then causes.WantsPredicate else
    (if is_word text tokens i (codes "else") then causes.WantsStatement else
    (if is_reserved text tokens i then after_end (kind_at tokens j) else
    (if is_word text tokens i (codes "if") then causes.NoIf else causes.AfterCall)))

abbrev pub after_kind : List ℕ → List Token → ℕ → ℕ → Option TokenKind → Cause
after_kind text tokens j i (Some kinds.Arrow) = causes.WantsTarget
after_kind text tokens j i (Some kinds.CloseRound) = causes.AfterCall
after_kind text tokens j i (Some kinds.CloseSquare) = causes.AfterCall
after_kind text tokens j i (Some kinds.CloseBrace) = causes.AfterStatement
after_kind text tokens j i (Some kinds.Word) = after_word text tokens j i
after_kind text tokens j i _ = causes.WantsStatement

-- what is wrong with the token j, which follows the token i in a list of statements
abbrev pub after_token : List ℕ → List Token → ℕ → ℕ → Cause
after_token text tokens j i = after_kind text tokens j i (kind_at tokens i)

abbrev pub after_first : List ℕ → List Token → ℕ → Option ℕ → Cause
after_first text tokens j None = causes.WantsStatement
after_first text tokens j (Some i) = after_token text tokens j i

abbrev pub in_list_by : List ℕ → List Token → ℕ → Option TokenKind → Cause
in_list_by text tokens i (Some kinds.Equals) =
    if is_arrow_head text tokens i then causes.FatArrow else after_first text tokens i (before tokens false i)
in_list_by text tokens i (Some kinds.Newline) = causes.EarlyLineEnd
in_list_by text tokens i _ = after_first text tokens i (before tokens false i)

-- why the token may not stand in a list of statements
abbrev pub in_list : List ℕ → List Token → ℕ → Cause
in_list text tokens i =
    if is_comment text tokens i then causes.Comment else
    (if is_word text tokens i (codes "else") then causes.LoneElse else
    (if begins_line tokens i && goes_on text tokens i then causes.AfterLineEnd else in_list_by text tokens i (kind_at tokens i)))

abbrev pub in_group_after : List ℕ → List Token → Option ℕ → Cause
in_group_after text tokens None = causes.WantsPredicate
in_group_after text tokens (Some i) =
    if is_joint text tokens i || is_open_round_kind (kind_at tokens i) then causes.WantsPredicate else causes.InGroup

-- why it may not stand in the parentheses of a predicate
abbrev pub in_group : List ℕ → List Token → ℕ → Cause
in_group text tokens i = in_group_after text tokens (before tokens true i)

-- the token is a word before an equals sign
abbrev pub is_parameter_name : List Token → ℕ → Bool
is_parameter_name tokens i =
    is_word_kind (kind_at tokens i) && is_equals_kind (kind_at tokens (past_lines tokens (behind tokens i)))

-- the values of the call whose bracket this is have names
abbrev pub is_named : List Token → ℕ → Bool
is_named tokens bracket = is_parameter_name tokens (past_lines tokens (behind tokens bracket))

abbrev pub follows : Option ℕ → List Token → Bool
follows None tokens = false
follows (Some i) tokens = is_comma_kind (kind_at tokens i)

abbrev pub follows_comma : List Token → ℕ → Bool
follows_comma tokens i = follows (before tokens true i) tokens

abbrev pub is_quoted_kind : Option TokenKind → Bool
is_quoted_kind (Some kinds.Quoted) = true
is_quoted_kind _ = false

-- what is wrong with the token j, which follows a value whose last token is of this kind
abbrev pub after_value : List Token → ℕ → Option TokenKind → Cause
after_value tokens j value =
    if begins_line tokens j then causes.StillOpen else
    (if is_quoted_kind value && is_word_kind (kind_at tokens j) then causes.AfterQuoted else causes.AfterValue)

abbrev pub after_in_call_by : List Token → ℕ → ℕ → Bool → Option TokenKind → Cause
after_in_call_by tokens j i named (Some kinds.Comma) = if named then causes.Mixed else causes.WantsValue
after_in_call_by tokens j i named (Some kinds.OpenRound) = causes.WantsValue
after_in_call_by tokens j i named (Some kinds.OpenSquare) = causes.WantsValue
after_in_call_by tokens j i named (Some kinds.Equals) = causes.WantsValue
after_in_call_by tokens j i named value = if named && follows_comma tokens i then causes.Mixed else after_value tokens j value

abbrev pub after_in_call : List Token → ℕ → ℕ → Bool → Cause
after_in_call tokens j i named = after_in_call_by tokens j i named (kind_at tokens i)

abbrev pub in_call_after : List Token → ℕ → Bool → Option ℕ → Cause
in_call_after tokens j named None = causes.WantsValue
in_call_after tokens j named (Some i) = after_in_call tokens j i named

abbrev pub has_names : List Token → List ℕ → Bool
has_names tokens brackets = nat_lt 0 (length brackets) && is_named tokens (innermost brackets)

-- why it may not stand in the brackets of a call
abbrev pub in_call : List Token → ℕ → List ℕ → Cause
in_call tokens i brackets =
    if is_equals_kind (kind_at tokens i) && not (has_names tokens brackets) then causes.Mixed
    else in_call_after tokens i (has_names tokens brackets) (before tokens true i)

abbrev pub in_array_by : Option TokenKind → Cause
in_array_by (Some kinds.OpenBrace) = causes.WantsText
in_array_by (Some kinds.Comma) = causes.WantsText
in_array_by _ = causes.AfterText

abbrev pub in_array_after : List Token → Option ℕ → Cause
in_array_after tokens None = causes.WantsText
in_array_after tokens (Some i) = in_array_by (kind_at tokens i)

-- why it may not stand in an array
abbrev pub in_array : List Token → ℕ → Cause
in_array tokens i = in_array_after tokens (before tokens true i)

abbrev pub misplaced_within : List ℕ → List Token → ℕ → List ℕ → Within → Cause
misplaced_within text tokens i brackets withins.List = in_list text tokens i
misplaced_within text tokens i brackets withins.Group = in_group text tokens i
misplaced_within text tokens i brackets (withins.Call name) =
    if is_word text tokens name (codes "if") then causes.NoIf else in_call tokens i brackets
misplaced_within text tokens i brackets (withins.Array name) = in_array tokens i

-- no bracket is open and this one closes, or the innermost is open and another closes
abbrev pub bracket_cause : List Token → ℕ → List ℕ → Option Cause
bracket_cause tokens i brackets =
    if nat_lt 0 (length brackets)
    then (if is_left_open (kind_at tokens (innermost brackets)) (kind_at tokens i) then Some causes.LeftOpen else None)
    else (if is_closing (kind_at tokens i) then Some causes.ClosesNothing else None)

abbrev pub misplaced_by : List ℕ → List Token → ℕ → List ℕ → Option Cause → Cause
misplaced_by text tokens i brackets None = misplaced_within text tokens i brackets (surroundings text tokens brackets)
misplaced_by text tokens i brackets (Some cause) = cause

-- why the token of this index may not follow those before it, of which these brackets are open
abbrev pub misplaced : List ℕ → List Token → ℕ → List ℕ → Cause
misplaced text tokens i brackets = misplaced_by text tokens i brackets (bracket_cause tokens i brackets)
