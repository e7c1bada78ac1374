use Rattle.std.proofs.Common.{ap, sym, ◌∙◌}
use Rattle.tow_answer.proofs.Placing.{placed_all, placed_all-last, placed_all-none}
use Rattle.tow_answer.proofs.sorting.sorted.Goals as goal

pub loop-field-init : goal.loop-field-init
loop-field-init c =
    ap (placed_all c.args.fields.items) c.in_ok-placed.ensures.items ∙ placed_all-none c.args.fields.items

pub loop-field-preserved : goal.loop-field-preserved
loop-field-preserved c =
    ap (placed_all c.pop.new.self.items) c.in_ok-place.ensures
    ∙ sym (placed_all-last c.pop.new.self.items c.in-Some.field c.loop-field.placed.items)
    ∙ ap (λ fields. placed_all fields c.loop-field.placed.items) (sym c.in-Some.ensures.items)
    ∙ c.loop-field.invariant
