-- What a page makes of a record, as the code says it.
use Rattle.std.specs.Prelude.{List}
use Rattle.tow_model.specs.declared.request.Field.{Field}
use Rattle.tow_model.specs.declared.record.Record.{Record}
use Rattle.tow_semantics.specs.Steps.{Step, Go, Stop, answered}
use Rattle.tow_found.specs.declared.end.End.{End}
use Rattle.tow_found.specs.declared.end.End.TheVariants.{Stops, Answers, GoesOn}

-- the step of a text that ends so, with this record
abbrev pub step_of : End → Record → Step
step_of Stops x = Stop x
step_of (Answers status) x = Stop (answered status x)
step_of GoesOn x = Go x

-- with other fields
abbrev pub with_fields : List Field → Record → Record
with_fields fields x = record x { fields = fields }
