use Rattle.std.proofs.Common.{◌≡◌, ◌≤◌, length, take}
use Rattle.tow_model.specs.Fields.{values_of}
use Rattle.tow_request.specs.Lines.{fields_at}
use Rattle.tow_request.proofs.fields.count_named.Given as goal

abbrev pub invariant-loop-line : goal.invariant-loop-line
invariant-loop-line l = record {
  in_range : l.count ≤ l.line-index;
  counted : l.count ≡ length (values_of l.name (fields_at l.bytes (take l.line-index l.lines)));
}
