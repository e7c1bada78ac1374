use Rattle.std.proofs.Common.{rules, tests, not}
use Rattle.std.proofs.lemmas.Fn.{filter_same}
use Rattle.tow_model.specs.Fields.{is_named}
use Rattle.tow_text.proofs.fields.remove_named.Goals as goal

pub returns-clause-items : goal.returns-clause-items
returns-clause-items c =
    filter_same _ (λ f. not (is_named c.args.name.now f)) _ (λ x b f called. search (rules, tests)) _ _ c.retain.ensures.filtered
