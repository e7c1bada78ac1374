-- The calls of a text, and their values, by their tokens.
use Rattle.std.specs.Prelude.{ℕ, Bool, true, false, not, ◌&&◌, List, Option, Some}
use Rattle.tow_language.specs.declared.token.Token.{Token}
use Rattle.tow_language.specs.declared.token.TokenKind.{TokenKind}
use Rattle.tow_language.specs.declared.token.TokenKind.TheVariants as kinds
use Rattle.tow_explain.specs.Misplaced.{is_parameter_name}
use Rattle.tow_explain.specs.Scripts.{behind, is_word_kind, kind_at}

-- it opens the values of a call
abbrev pub is_bracket : Option TokenKind → Bool
is_bracket (Some kinds.OpenRound) = true
is_bracket (Some kinds.OpenSquare) = true
is_bracket _ = false

-- the token of this index names a call that has brackets
abbrev pub is_call : List Token → ℕ → Bool
is_call tokens i = is_word_kind (kind_at tokens i) && is_bracket (kind_at tokens (behind tokens i))

abbrev pub is_value_kind : Option TokenKind → Bool → Bool
is_value_kind (Some kinds.Quoted) named = true
is_value_kind (Some kinds.Word) named = not named
is_value_kind _ named = false

-- the token of this index is a text in a call, and not the name of a parameter
abbrev pub is_value : List Token → ℕ → Bool
is_value tokens i = is_value_kind (kind_at tokens i) (is_parameter_name tokens i)
