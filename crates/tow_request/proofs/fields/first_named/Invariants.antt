use Rattle.std.proofs.Common.{◌≡◌, drop}
use Rattle.tow_model.specs.Fields.{values_of}
use Rattle.tow_request.specs.Lines.{first, fields_at}
use Rattle.tow_request.proofs.fields.first_named.Given as goal

-- the first value is among the lines that are left
abbrev pub invariant-loop-line : goal.invariant-loop-line
invariant-loop-line l =
    first (values_of l.name (fields_at l.bytes (drop l.line-index l.lines))) ≡ first (values_of l.name (fields_at l.bytes l.lines))
