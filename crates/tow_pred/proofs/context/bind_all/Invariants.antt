use Rattle.std.proofs.Common.{◌≡◌, fold}
use Rattle.std.specs.Vec.Iter.{into_iter_items}
use Rattle.tow_model.specs.Fields as fields
use Rattle.tow_pred.proofs.context.bind_all.Given as goal

-- the bindings that are left, on the context so far, come to the whole
abbrev pub invariant-loop-binding : goal.invariant-loop-binding
invariant-loop-binding l = record {
  can_next : (goal.iterator-loop-binding).can_next l.binding-iterator;
  is_finite : (goal.iterator-loop-binding).is_finite l.binding-iterator;
  left : fold (λ all f. fields.bind f all) l.context (into_iter_items l.binding-iterator) ≡ fold (λ all f. fields.bind f all) l.fn.context l.fn.bindings;
}
