use Rattle.std.proofs.Common.{refl, ap, ◌∙◌}
use Rattle.std.specs.Cmp.Lexicographic.{lists_agrees}
use Rattle.std.specs.Ordering.{is_le, is_some_and, nat_cmp}
use Rattle.tow_model.specs.Lists.{bytes_le}
use Rattle.tow_answer.proofs.sorting.stands_before.Goals as goal

pub returns : goal.returns
returns c =
    c.le.ensures ∙ ap (is_some_and is_le) (lists_agrees {R = nat_cmp} (λ x y. refl) c.as_slice.result.now c.as_slice-2.result.now)
    ∙ ap (λ name. bytes_le name c.as_slice-2.result.now) c.as_slice.ensures
    ∙ ap (bytes_le c.args.first.now.name) c.as_slice-2.ensures
