use Rattle.std.proofs.Common.{◌≡◌, drop}
use Rattle.tow_model.specs.Fields.{values_of}
use Rattle.tow_page.proofs.unchanged.only_value.Given as goal

-- the lines of the name are among the fields that are left
abbrev pub invariant-loop-at : goal.invariant-loop-at
invariant-loop-at l = values_of l.name (drop l.at l.fields) ≡ values_of l.name l.fields
