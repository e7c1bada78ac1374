use Rattle.std.proofs.Common.{rules, tests, ◌∙◌}
use Rattle.std.proofs.lemmas.Iterator.{YieldsList-from_slice}
use Rattle.std.proofs.lemmas.Iterator.Search.{any_from_yields_List}
use Rattle.tow_model.specs.Fields.{is_named}
use Rattle.tow_text.proofs.Named.{some_named}
use Rattle.tow_text.proofs.fields.has_field.Goals as goal

pub returns : goal.returns
returns c =
    any_from_yields_List (is_named c.args.name.now) _ _ _ c.any.ensures.ran (YieldsList-from_slice c.args.fields.now c.iter.ensures.rest) (λ x b q k. search (rules, tests))
    ∙ some_named c.args.name.now c.args.fields.now
