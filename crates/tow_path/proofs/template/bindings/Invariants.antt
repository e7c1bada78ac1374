use Rattle.tow_path.proofs.Templates.{Goes}
use Rattle.tow_path.proofs.template.bindings.Given as goal

abbrev pub invariant-loop-segment : goal.invariant-loop-segment
invariant-loop-segment l = record {
  can_next : (goal.iterator-loop-segment).can_next l.segment-iterator;
  is_finite : (goal.iterator-loop-segment).is_finite l.segment-iterator;
  goes : Goes l.parts l.yielded l.left l.fields;
}
