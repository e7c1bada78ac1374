use Rattle.std.proofs.Common.{◌≡◌, take}
use Rattle.tow_request.specs.Lines.{fields_at}
use Rattle.tow_request.proofs.fields.copied_fields.Given as goal

abbrev pub invariant-loop-line : goal.invariant-loop-line
invariant-loop-line l = l.fields.items ≡ fields_at l.bytes (take l.line-index l.lines)
