-- Patterns: what a text matches and binds, in the words of `regex` over bytes.
use Rattle.std.specs.Prelude.{ℕ, false, IsUtf8, List, length, map, Option, option_map, option_and_then, decimal}
use Rattle.std.specs.List.{range_with_len}
use Rattle.std.specs.Str.{chars}
use Rattle.regex.specs.Patterns.{Match, Config, default_config, find}
use Rattle.regex.specs.Replace.{group_bytes}
use Rattle.regex.specs.Failures.{IsPattern}
use Rattle.regex_syntax.specs.Grammar.{read}
use Rattle.tow_model.specs.declared.request.Field.{Field}
use Rattle.tow_model.specs.Texts.{Text}
use Rattle.tow_model.specs.Fields.{field}

-- how patterns are read: as `regex` reads them over bytes
abbrev pub over_bytes : Config
over_bytes = record default_config { utf8 = false }

-- the pattern is UTF-8, is in the grammar of `regex`, and is not nested deeper than that allows
abbrev pub IsGoodPattern : Text → Type 0
IsGoodPattern pattern = IsUtf8 pattern × IsPattern over_bytes pattern

-- the groups of a match by their numbers, group 0 being the whole match; one that took no part is empty
abbrev pub groups : ℕ → Text → Match → List Field
groups number value m = map (λ n. field (decimal n) (group_bytes value m n)) (range_with_len 0 number)

-- the groups of the first match in the value, where there is one
abbrev pub pattern_bindings : Text → Text → Option (List Field)
pattern_bindings pattern value =
    option_and_then (λ p. option_map (groups (length p.1) value) (find p.0.value value 0)) (read over_bytes (chars pattern))
