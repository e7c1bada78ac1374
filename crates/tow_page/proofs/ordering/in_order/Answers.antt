use Rattle.std.proofs.Common.{rules, tests, sym, map}
use Rattle.std.proofs.lemmas.List.Sorted.{answers_always}
use Rattle.std.specs.List.Sorted.{IsSortedBy}
use Rattle.tow_folder.specs.Folders.{name_shown}
use Rattle.tow_page.specs.Answers.{AreOrdered}
use Rattle.tow_page.proofs.Sorting.{is_first, is_order, ordered}
use Rattle.tow_page.proofs.ordering.in_order.Goals as goal

pub returns : goal.returns
returns c =
    let sorted : IsSortedBy is_first c.sort_unstable_by.new.self.items =
    c.sort_unstable_by.ensures.sorted is_first is_order (answers_always _ _ _ (λ f a r f' k. search (rules, tests))) in
    let both : AreOrdered (map name_shown c.into_vec-names.result.items) (map name_shown c.sort_unstable_by.new.self.items) =
    ordered c.into_vec-names.result.items c.sort_unstable_by.new.self.items sorted c.sort_unstable_by.ensures.permutation in
    rw (c.from_vec.ensures, sym c.into_vec-names.ensures) both
