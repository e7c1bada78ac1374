-- What runs when an exchange completes: its listeners, the one added last first.
use Rattle.std.specs.Prelude.{ℕ, List, [], ◌∷◌, ◌++◌, map, filter_map, flat_map, reverse, Option, Some, None}
use Rattle.std.specs.List.{slice_index_or}
use Rattle.tow_model.specs.declared.request.Request.{Request}
use Rattle.tow_model.specs.declared.record.Record.{Record}
use Rattle.tow_model.specs.declared.record.Listener.{Listener}
use Rattle.tow_model.specs.declared.record.Listener.TheVariants.{Leave, Log}
use Rattle.tow_model.specs.declared.account.Call.{Call}
use Rattle.tow_model.specs.declared.account.Line.{Line}
use Rattle.tow_model.specs.declared.account.What.TheVariants as what
use Rattle.tow_model.specs.declared.action.Action.{Action}
use Rattle.tow_model.specs.declared.action.Action.TheVariants.{AccessLog, RequestLimit}
use Rattle.tow_model.specs.declared.statement.Statement.{Statement, fold-Statement}
use Rattle.tow_model.specs.declared.statement.Statement.TheOpen.{Statement-F, When, Act, Block}
use Rattle.tow_model.specs.declared.attribute.Piece.{Piece}
use Rattle.tow_model.specs.declared.account.Bound.{Bound}
use Rattle.tow_semantics.specs.Values.{line_of}
use Rattle.tow_semantics.specs.Runs.{Entry, Ending}

-- THE ACTIONS OF A TEXT

abbrev pub joined_lists : {A : Type 0} → List (List A) → List A
joined_lists xss = flat_map (λ xs. xs) xss

abbrev pub other_actions : Option (List Action) → List Action
other_actions None = []
other_actions (Some actions) = actions

abbrev pub actions_by : Statement-F (List Action) → List Action
actions_by (When test then_part other) = then_part ++ other_actions other
actions_by (Act a) = a ∷ []
actions_by (Block parts) = joined_lists parts

-- the actions of a text in its order
abbrev pub actions_of : List Statement → List Action
actions_of tree = flat_map (fold-Statement (List Action) actions_by) tree

abbrev pub format_of_action : Action → Option (List Piece)
format_of_action (AccessLog number format) = Some format
format_of_action other = None

abbrev pub bound_of_action : Action → Option Bound
bound_of_action (RequestLimit number most) = Some (record { most = most })
bound_of_action other = None

-- the formats of its logs and the bounds of its limits, by their numbers
abbrev pub formats_of : List Statement → List (List Piece)
formats_of tree = filter_map format_of_action (actions_of tree)

abbrev pub bounds_of : List Statement → List Bound
bounds_of tree = filter_map bound_of_action (actions_of tree)

abbrev pub at_number : {A : Type 0} → ℕ → List (List A) → List A
at_number number lists = slice_index_or lists number []

-- LINES AND CALLS

abbrev pub line_by : List Statement → ℕ → ℕ → Request → Record → ℕ → Listener → Option Line
line_by tree k j q x m (Leave limit) = None
line_by tree k j q x m (Log number) =
    Some (record { connection = k; request = j; number = number; text = line_of (at_number number (formats_of tree)) q x m })

-- the lines that the listeners write
abbrev pub lines : List Statement → ℕ → ℕ → Request → ℕ → Record → List Line
lines tree k j q m x = filter_map (line_by tree k j q x m) (reverse x.listeners)

abbrev pub leaving : ℕ → Listener → Option Call
leaving j (Leave limit) = Some (record { limit = limit; request = j; what = what.Leave })
leaving j (Log number) = None

abbrev pub entering : ℕ → Entry → Call
entering j e = record { limit = e.limit; request = j; what = what.Enter e.verdict }

-- the calls of limits: the entries in the order of the walk, and then the leavings of the listeners
abbrev pub calls : ℕ → Ending → List Call
calls j o = map (entering j) o.entries ++ filter_map (leaving j) (reverse o.state.listeners)
