use Rattle.std.proofs.Common.{rules, tests, ◌||◌, ◌==◌}
use Rattle.std.proofs.lemmas.Iterator.Search.{any_from_yields_List}
use Rattle.std.proofs.lemmas.Iterator.Splits.{YieldsList-from_slice_split}
use Rattle.tow_model.specs.Paths.{is_dot, is_dots, slash}
use Rattle.tow_path.proofs.resolving.has_dot_segment.Goals as goal

pub returns : goal.returns
returns c =
    any_from_yields_List (λ s. is_dot s || is_dots s) _ _ _ c.any.ensures.ran
    (YieldsList-from_slice_split _ (λ b. b == slash) c.args.path.now c.split.ensures.rest c.split.ensures.done c.split.ensures.closure (λ x r q k. search (rules, tests)))
    (λ x b q k. search (rules, tests))
