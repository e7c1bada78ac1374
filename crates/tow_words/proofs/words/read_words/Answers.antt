use Rattle.std.proofs.Common.{◌≡◌, ◌∙◌, subst, sym}
use Rattle.std.specs.Prelude.{IfSome, Result, string_bytes}
use Rattle.tow_words.specs.Words.{CommandData, words_seen}
use Rattle.tow_words.specs.declared.command.Why.{Why}
use Rattle.tow_words.proofs.Reading.{command_is}
use Rattle.tow_words.proofs.words.read_words.Goals as goal

pub returns-in-len1-up-clause-words : goal.returns-in-len1-up-clause-words
returns-in-len1-up-clause-words c =
    let same = command_is string_bytes c.args.words.now c.name-item.result c.as_str.result.now c.in-len1-up.len_at_least c.name-item.is c.as_str.ensures.value in
    subst (λ (r : Result CommandData Why). IfSome (words_seen c.read_named.result) (λ seen. seen ≡ r)) (sym same) c.read_named.ensures.words

pub returns-in-len1-up-clause-unnamed : goal.returns-in-len1-up-clause-unnamed
returns-in-len1-up-clause-unnamed c none =
    let same = command_is string_bytes c.args.words.now c.name-item.result c.as_str.result.now c.in-len1-up.len_at_least c.name-item.is c.as_str.ensures.value in
    c.read_named.ensures.unnamed (sym same ∙ none)
