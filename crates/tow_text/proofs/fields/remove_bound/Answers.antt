use Rattle.std.proofs.Common.{rules, tests, not}
use Rattle.std.proofs.lemmas.Fn.{filter_same}
use Rattle.std.specs.Str.{bytes_eq}
use Rattle.tow_text.proofs.fields.remove_bound.Goals as goal

pub returns-clause-items : goal.returns-clause-items
returns-clause-items c =
    filter_same _ (λ f. not (bytes_eq f.name c.args.name.now)) _ (λ x b f called. search (rules, tests)) _ _ c.retain.ensures.filtered
