-- The trees whose walk is built so far: each test, and the actions that wait for nothing and add no listener.
use Rattle.std.specs.Prelude.{Bool, true, false, ◌&&◌, List, Option, Some, None}
use Rattle.std.specs.List.{list_all}
use Rattle.tow_model.specs.declared.action.Action.{Action}
use Rattle.tow_model.specs.declared.action.Action.TheVariants.{RequestLimit, Resource, AccessLog, Echo}
use Rattle.tow_model.specs.declared.statement.Statement.{Statement, fold-Statement}
use Rattle.tow_model.specs.declared.statement.Statement.TheOpen.{Statement-F, When, Act, Block}

abbrev pub is_built_action : Action → Bool
is_built_action (RequestLimit number most) = false
is_built_action (Resource location listing) = false
is_built_action (AccessLog number format) = false
is_built_action Echo = false
is_built_action other = true

abbrev pub built_other : Option Bool → Bool
built_other None = true
built_other (Some b) = b

abbrev pub built_statement_by : Statement-F Bool → Bool
built_statement_by (When test then_part other) = then_part && built_other other
built_statement_by (Act action) = is_built_action action
built_statement_by (Block parts) = list_all (λ b. b) parts

abbrev pub is_built_statement : Statement → Bool
is_built_statement = fold-Statement Bool built_statement_by

-- no action waits or adds a listener
abbrev pub is_built : List Statement → Bool
is_built tree = list_all is_built_statement tree
