use Rattle.std.proofs.Common.{rules, tests, ◌==◌}
use Rattle.std.proofs.lemmas.Iterator.Search.{find_from_yields_List}
use Rattle.std.proofs.lemmas.Iterator.Splits.{YieldsList-from_slice_split}
use Rattle.tow_attr.specs.Finding.{is_parameter}
use Rattle.tow_attr.proofs.parameters.first_parameter.Goals as goal

pub returns : goal.returns
returns c =
    find_from_yields_List (is_parameter c.args.name.now) _ _ _ c.find.ensures.ran
    (YieldsList-from_slice_split _ (λ b. b == 38) c.args.query.now c.split.ensures.rest c.split.ensures.done c.split.ensures.closure (λ x r q k. search (rules, tests)))
    (λ x b q k. search (rules, tests))
