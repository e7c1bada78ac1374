use Rattle.std.proofs.Common.{rules, tests, ◌==◌, not}
use Rattle.std.proofs.lemmas.Iterator.Search.{all_from_yields_List}
use Rattle.std.proofs.lemmas.Iterator.Splits.{YieldsList-from_slice_split}
use Rattle.tow_model.specs.Paths.{slash}
use Rattle.tow_model.specs.Texts.{is_empty}
use Rattle.tow_visit.proofs.path.has_whole_segments.Goals as goal

pub returns : goal.returns
returns c =
    all_from_yields_List (λ s. not (is_empty s)) _ _ _ c.all.ensures.ran
    (YieldsList-from_slice_split _ (λ b. b == slash) c.args.text.now c.split.ensures.rest c.split.ensures.done c.split.ensures.closure (λ x r q k. search (rules, tests)))
    (λ x b q k. search (rules, tests))
