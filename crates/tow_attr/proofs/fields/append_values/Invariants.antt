use Rattle.std.proofs.Common.{take}
use Rattle.tow_model.specs.Fields.{values_of}
use Rattle.tow_attr.proofs.Found.{AreJoined}
use Rattle.tow_attr.proofs.fields.append_values.Given as goal

abbrev pub invariant-loop-field : goal.invariant-loop-field
invariant-loop-field l = AreJoined l.fn.out.items l.out.items l.is_first (values_of l.name (take l.field-index l.fields))
